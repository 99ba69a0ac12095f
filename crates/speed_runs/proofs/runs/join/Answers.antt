use Rattle.std.proofs.Common.{◌+◌, ◌∙◌, subst, sym}
use Rattle.std.specs.Vec.Iter.{into_iter_items}
use Rattle.big_atomic.proofs.Gathering.{GatheredSoFar, gather_begins, gather_more, next_holds}
use Rattle.speed_runs.specs.Runs.{HasRun}
use Rattle.speed_runs.specs.declared.ran.Ran.{Ran}
use Rattle.speed_runs.proofs.runs.join.Goals as goal

pub loop-other-init : goal.loop-other-init
loop-other-init g c =
    let P : Ran → Type 0 = λ one. HasRun (g.W.Work.is_turn c.args.work.now) g.W.Work.is_made (g.W.Work.filling c.args.work.now + g.W.Work.calls c.args.work.now) c.args.shared.now one.seat one.done in
    subst (λ it. GatheredSoFar (λ (one : Ran). one.seat) P c.in-Some.first (into_iter_items it) c.args.all.items) (sym c.into_iter-other-iterator.ensures.into_iter_gives)
    (gather_begins (λ (one : Ran). one.seat) P c.in-Some.first (into_iter_items c.next.new.self) c.args.all.items (sym c.into_iter-all.ensures.rest ∙ c.in-Some.ensures.items)
    c.requires.ran c.requires.led)

pub take_in-requires-clause-theirs : goal.take_in-requires-clause-theirs
take_in-requires-clause-theirs g c = next_holds c.loop-other.invariant c.in-Some-other.other (into_iter_items c.next-in-loop-other.new.self) c.in-Some-other.ensures.steps.0

pub loop-other-preserved : goal.loop-other-preserved
loop-other-preserved g c =
    gather_more c.loop-other.invariant c.in-Some-other.other (into_iter_items c.next-in-loop-other.new.self) c.in-Some-other.ensures.steps.0 c.take_in.new.first
    c.take_in.ensures.ran c.take_in.ensures.first c.take_in.ensures.numbers
