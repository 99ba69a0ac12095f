use Rattle.std.proofs.Common.{◌∙◌, arith, subst, sym}
use Rattle.std.proofs.lemmas.List.{nil_from_length}
use Rattle.std.specs.Vec.Iter.{into_iter_items}
use Rattle.tally_core.proofs.Gathered.{HasTakenIn, first_taken_in, all_taken_in, next_taken_in, next_done}
use Rattle.tally_core.proofs.closing.gather.Goals as goal

pub loop-other-init : goal.loop-other-init
loop-other-init g c =
    subst (λ it. HasTakenIn c.args.shared.now c.in-Some.first.seat (into_iter_items it) c.args.workers.items) (sym c.into_iter-other-iterator.ensures.into_iter_gives)
    (first_taken_in c.in-Some.first (into_iter_items c.next.new.self) c.args.workers.items (sym c.into_iter-workers.ensures.rest ∙ c.in-Some.ensures.items) c.requires.done c.requires.led)

pub join-requires-clause-theirs : goal.join-requires-clause-theirs
join-requires-clause-theirs g c = (next_done c.loop-other.invariant c.in-Some-other.other (into_iter_items c.next-in-loop-other.new.self) c.in-Some-other.ensures.steps.0).ours

pub join-requires-clause-quiet : goal.join-requires-clause-quiet
join-requires-clause-quiet g c = (
  c.loop-other.invariant.gathered.done.quiet,
  (next_done c.loop-other.invariant c.in-Some-other.other (into_iter_items c.next-in-loop-other.new.self) c.in-Some-other.ensures.steps.0).quiet,
)

pub loop-other-preserved : goal.loop-other-preserved
loop-other-preserved g c =
    next_taken_in c.loop-other.invariant c.in-Some-other.other (into_iter_items c.next-in-loop-other.new.self) c.in-Some-other.ensures.steps.0 c.join.ensures.joined c.join.ensures.law

pub returns : goal.returns
returns g c =
    let left = into_iter_items c.loop-other.other-iterator in
    record { gathered = all_taken_in c.loop-other.invariant (nil_from_length left (omega (arith, c.loop-other.other-iterator.rest.ok.0, c.in-None.ensures.steps.0))) }
