use Rattle.std.proofs.Common.{List, ℕ, subst, sym}
use Rattle.netflow_five.specs.Next.{ReadTo, StopsAt, CollectsFront}
use Rattle.netflow_five.proofs.Streams.{front_read, stops_at_front}
use Rattle.netflow_five.proofs.streaming.collect_window.Goals as goal

pub returns-clause-collected : goal.returns-clause-collected
returns-clause-collected g c =
    let front = c.in_ok-front.ensures.front in
    let at = c.in_ok-front.front.at in
    let read : ReadTo c.args.window.now at front.0 = subst (λ (z : List ℕ). ReadTo z at front.0) c.as_slice.ensures front.1 in (
      front.0,
      subst (λ (z : List ℕ). CollectsFront g.C.Collector.holds c.args.window.now c.args.collector.now front.0 z c.collect_front.new.collector)
          (sym c.skip.ensures) (front_read read front.2),
    )

pub returns-clause-stops : goal.returns-clause-stops
returns-clause-stops g c =
    let at = c.in_ok-front.front.at in
    let cause = c.in_ok-front.front.cause in
    let stops : StopsAt c.args.window.now at cause = subst (λ (z : List ℕ). StopsAt z at cause) c.as_slice.ensures c.in_ok-front.ensures.stops in
    subst (λ (z : List ℕ). StopsAt z 0 cause) (sym c.skip.ensures) (stops_at_front c.args.window.now at cause stops)
