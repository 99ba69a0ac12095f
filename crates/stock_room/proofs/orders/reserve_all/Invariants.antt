use Rattle.std.proofs.Common.{◌+◌, ◌≤◌, []}
use Rattle.big_atomic.specs.Seats.{Stays}
use Rattle.stock_room.specs.Stock.{HasStocked}
use Rattle.stock_room.proofs.orders.reserve_all.Given as goal

abbrev pub invariant-loop-order : goal.invariant-loop-order
invariant-loop-order l = HasStocked l.shared [] l.worker × (l.shared.plan.changes ≤ l.worker.view.changes + l.order-index) × Stays l.fn.seat l.worker
