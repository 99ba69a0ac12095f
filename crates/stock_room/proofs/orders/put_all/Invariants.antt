use Rattle.std.proofs.Common.{◌+◌, ◌≤◌, take}
use Rattle.big_atomic.specs.Seats.{Stays}
use Rattle.stock_room.specs.Stock.{HasStocked}
use Rattle.stock_room.proofs.orders.put_all.Given as goal

abbrev pub invariant-loop-lot : goal.invariant-loop-lot
invariant-loop-lot l = HasStocked l.shared (take l.lot-index l.items) l.keeper × (l.shared.plan.changes ≤ l.keeper.view.changes + l.lot-index) × Stays l.fn.seat l.keeper
