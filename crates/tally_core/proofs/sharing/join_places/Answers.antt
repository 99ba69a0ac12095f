use Rattle.std.proofs.Common.{◌∙◌, arith, sym, subst}
use Rattle.std.proofs.lemmas.List.{nil_from_length}
use Rattle.std.specs.Vec.Iter.{into_iter_items}
use Rattle.tally_core.proofs.Places.{HasJoined, each_drawn, first_joined, first_seat, next_joined, next_tells, seats_kept, seats_push}
use Rattle.tally_core.specs.Workers.{seats_of}
use Rattle.tally_core.proofs.sharing.join_places.Goals as goal

pub loop-drawer-init : goal.loop-drawer-init
loop-drawer-init c =
    subst (λ it. HasJoined c.args.batches.now c.in-Some.first.told.batches (seats_of c.push.new.self.items) (into_iter_items it) c.args.drawers.items)
    (sym c.into_iter-drawer-iterator.ensures.into_iter_gives)
    (first_joined c.in-Some.first (sym c.into_iter-drawers.ensures.rest ∙ c.in-Some.ensures.items) c.requires.each
    (first_seat c.in_ok-workers.workers.items (record { seat = c.in-Some.first.seat; told = tt }) c.in_ok-push.ensures.items c.in_ok-workers.ensures.items))

pub join-requires-clause-theirs : goal.join-requires-clause-theirs
join-requires-clause-theirs c = (next_tells c.loop-drawer.invariant c.in-Some-drawer.drawer (into_iter_items c.next-in-loop-drawer.new.self) c.in-Some-drawer.ensures.steps.0).seat.ours

pub loop-drawer-preserved : goal.loop-drawer-preserved
loop-drawer-preserved c =
    next_joined c.loop-drawer.invariant c.in-Some-drawer.drawer (into_iter_items c.next-in-loop-drawer.new.self) c.in-Some-drawer.ensures.steps.0 c.join.ensures.joined c.join.ensures.law
    (seats_push c.loop-drawer.workers.items (record { seat = c.in-Some-drawer.drawer.seat; told = tt }) c.in_ok-push-2.ensures.items)

pub returns-clause-seats : goal.returns-clause-seats
returns-clause-seats c =
    let left = into_iter_items c.loop-drawer.drawer-iterator in
    seats_kept c.loop-drawer.invariant (nil_from_length left (omega (arith, c.loop-drawer.drawer-iterator.rest.ok.0, c.in-None.ensures.steps.0)))

pub returns-clause-once : goal.returns-clause-once
returns-clause-once c =
    let left = into_iter_items c.loop-drawer.drawer-iterator in
    each_drawn c.loop-drawer.invariant (nil_from_length left (omega (arith, c.loop-drawer.drawer-iterator.rest.ok.0, c.in-None.ensures.steps.0)))
