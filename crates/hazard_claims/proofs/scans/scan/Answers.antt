use Rattle.std.proofs.Common.{◌≡◌, ◌<◌, ◌*◌, [], sym, ap, ◌∙◌, subst, arith, add-one}
use Rattle.step_rules.specs.declared.layout.TheConstants.{CLAIMS}
use Rattle.step_rules.specs.declared.plan.Plan.{Plan}
use Rattle.hazard_claims.proofs.Loading.{Going, Loads, begins, ends, finds_own, going_of, goes_on, may_scan, more_loads, no_loads, one_more, ready, ready_of, whole}
use Rattle.hazard_claims.proofs.scans.scan.Goals as goal

pub overflow_mul-word-end : goal.overflow_mul-word-end
overflow_mul-word-end c =
    let start = c.clear_walk.new.seat in
    let sound = c.clear_walk.ensures.law.sound in
    let is_ready = ready c.args.seat.now start sound.claims.four c.clear_walk.ensures.cleared in
    let plan : c.plan-word-end.result ≡ start.view.plan = c.plan-word-end.ensures ∙ sym (ready_of c.args.seat.now start c.args.shared.now is_ready c.requires.ours).plan in
    let few = sound.plan.seats in
    let seats = ap (λ (p : Plan). p.seats) plan in omega arith

pub loop-word-init : goal.loop-word-init
loop-word-init c =
    let start = c.clear_walk.new.seat in
    let sound = c.clear_walk.ensures.law.sound in
    let is_ready = ready c.args.seat.now start sound.claims.four c.clear_walk.ensures.cleared in
    let plan : c.plan-word-end.result ≡ start.view.plan = c.plan-word-end.ensures ∙ sym (ready_of c.args.seat.now start c.args.shared.now is_ready c.requires.ours).plan in
    let few = sound.plan.seats in
    let seats = ap (λ (p : Plan). p.seats) plan in
    ([], no_loads start.view, (λ below. begins start), (λ e. absurd (omega arith)), c.clear_walk.ensures.law)

pub scan_load-requires-clause-ours : goal.scan_load-requires-clause-ours
scan_load-requires-clause-ours c =
    let start = c.clear_walk.new.seat in
    let is_ready = ready c.args.seat.now start c.clear_walk.ensures.law.sound.claims.four c.clear_walk.ensures.cleared in
    let so_far = c.loop-word.invariant in
    going_of c.loop-word.word so_far.0 start c.loop-word.seat c.args.shared.now (so_far.2 c.loop-word-test.true) (ready_of c.args.seat.now start c.args.shared.now is_ready c.requires.ours)

pub scan_load-requires-clause-may : goal.scan_load-requires-clause-may
scan_load-requires-clause-may c =
    let start = c.clear_walk.new.seat in
    let is_ready = ready c.args.seat.now start c.clear_walk.ensures.law.sound.claims.four c.clear_walk.ensures.cleared in
    let so_far = c.loop-word.invariant in
    let plan : c.plan-word-end.result ≡ start.view.plan = c.plan-word-end.ensures ∙ sym (ready_of c.args.seat.now start c.args.shared.now is_ready c.requires.ours).plan in
    may_scan c.loop-word.word so_far.0 start c.loop-word.seat (so_far.2 c.loop-word-test.true)
    (subst (λ (p : Plan). c.loop-word.word < CLAIMS * p.seats) plan c.loop-word-test.true)

pub loop-word-preserved : goal.loop-word-preserved
loop-word-preserved c =
    let old = c.args.seat.now in
    let start = c.clear_walk.new.seat in
    let now = c.loop-word.seat in
    let new = c.scan_load.new.seat in
    let w = c.loop-word.word in
    let x = c.scan_load.result in
    let sound = c.clear_walk.ensures.law.sound in
    let is_ready = ready old start sound.claims.four c.clear_walk.ensures.cleared in
    let so_far = c.loop-word.invariant in
    let loads = so_far.0 in
    let going = so_far.2 c.loop-word-test.true in
    let plan : c.plan-word-end.result ≡ start.view.plan = c.plan-word-end.ensures ∙ sym (ready_of old start c.args.shared.now is_ready c.requires.ours).plan in
    let seats = ap (λ (p : Plan). p.seats) plan in
    let more = one_more w x start.view loads in (
      more,
      subst (λ n. Loads n more start.view) (sym (add-one w)) (more_loads w x loads start.view so_far.1 (finds_own w x loads start now going c.scan_load.ensures.own)),
      (λ below. subst (λ n. Going n more start new) (sym (add-one w)) (goes_on w x loads start now new going c.scan_load.ensures.seat (omega arith))),
      (λ e. ends w x loads start now new going c.scan_load.ensures.seat (omega arith) sound.retired_once),
      c.scan_load.ensures.law,
    )

pub returns-clause-scanned : goal.returns-clause-scanned
returns-clause-scanned c =
    let old = c.args.seat.now in
    let start = c.clear_walk.new.seat in
    let sound = c.clear_walk.ensures.law.sound in
    let is_ready = ready old start sound.claims.four c.clear_walk.ensures.cleared in
    let so_far = c.loop-word.invariant in
    let plan : c.plan-word-end.result ≡ old.view.plan = c.plan-word-end.ensures ∙ sym c.requires.ours.plan in
    let seats = ap (λ (p : Plan). p.seats) plan in
    let last : c.loop-word.word ≡ 4 * c.plan-word-end.result.seats = omega (arith, c.loop-word.auto.word-end, c.loop-word-test.false) in
    whole old start c.loop-word.seat so_far.0 sound is_ready (subst (λ n. Loads n so_far.0 start.view) (last ∙ ap (λ n. CLAIMS * n) seats) so_far.1) (so_far.3 last)

pub returns-clause-law : goal.returns-clause-law
returns-clause-law c = c.loop-word.invariant.4
