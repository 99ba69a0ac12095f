use Rattle.std.proofs.Common.{◌-◌, length}
use Rattle.big_atomic.specs.Seats.{Stays}
use Rattle.tally_core.specs.Drawing.{IsDrawing}
use Rattle.tally_core.proofs.drawing.add_batches.Given as goal

abbrev pub invariant-draws : goal.invariant-draws
invariant-draws g l = record {
  drawing : IsDrawing l.shared l.batches l.pairs l.drawer;
  stays : Stays l.fn.drawer.seat l.drawer.seat;
}

abbrev pub decreases-draws : goal.decreases-draws
decreases-draws g l = l.batches.plan.count - length l.drawer.told.drawn.items
