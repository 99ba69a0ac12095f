use Rattle.std.proofs.Common.{◌≡◌, ◌*◌, ◌-◌, length}
use Rattle.cache_hash.specs.Asking.{Only}
use Rattle.cache_hash.specs.Changing.{Begun, CameBy, IsAtTurn}
use Rattle.cache_hash.proofs.changes.change.Given as goal

-- the cell's version was found, its node is claimed, and no turn has won or ended
abbrev pub invariant-turns : goal.invariant-turns
invariant-turns l = (b : Begun l.shared l.fn.key) × (b.before ≡ l.fn.seat) × CameBy (Only l.fn.change) b × IsAtTurn b l.cell l.start l.scanned l.seat

abbrev pub decreases-turns : goal.decreases-turns
decreases-turns l = l.seat.view.plan.seats * l.seat.view.plan.changes - length l.seat.view.seen
