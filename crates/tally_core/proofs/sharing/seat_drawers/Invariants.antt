use Rattle.std.proofs.Common.{◌≡◌, ◌++◌, All, length}
use Rattle.std.specs.Vec.Iter.{into_iter_items}
use Rattle.tally_core.specs.Drawing.{HasNoDraw, IsUndrawn}
use Rattle.tally_core.specs.Workers.{seats_of}
use Rattle.worker_gate.specs.Seats.{BatchesData}
use Rattle.tally_core.proofs.sharing.seat_drawers.Given as goal

abbrev pub invariant-loop-seat : goal.invariant-loop-seat
invariant-loop-seat l = record {
  seats : seats_of l.drawers.items ++ into_iter_items l.seat-iterator ≡ l.fn.seats.items;
  places : length l.places.items ≡ length (into_iter_items l.seat-iterator);
  no_draw : (batches : BatchesData) → All (IsUndrawn batches) l.fn.places.items → batches.plan.count ≡ l.count
      → All (IsUndrawn batches) l.places.items × All (HasNoDraw batches) l.drawers.items;
}
