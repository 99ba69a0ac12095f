use Rattle.std.proofs.Common.{◌≡◌, ◌++◌, All}
use Rattle.std.specs.Vec.Iter.{into_iter_items}
use Rattle.tally_core.specs.Workers.{HasRoom, seats_of}
use Rattle.tally_core.proofs.opening.seat_callers.Given as goal

abbrev pub invariant-loop-seat : goal.invariant-loop-seat
invariant-loop-seat l = record {
  seats : seats_of l.callers.items ++ into_iter_items l.seat-iterator ≡ l.fn.seats.items;
  room : All (HasRoom l.lines) l.callers.items;
}
