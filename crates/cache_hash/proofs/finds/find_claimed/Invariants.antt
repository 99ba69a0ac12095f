use Rattle.std.proofs.Common.{◌*◌, ◌-◌, length}
use Rattle.cache_hash.proofs.Finding.{Claimed}
use Rattle.cache_hash.proofs.finds.find_claimed.Given as goal

-- the cell's node is claimed, and no more was made than looks and loads
abbrev pub invariant-turns : goal.invariant-turns
invariant-turns l = Claimed l.shared l.key l.cell l.fn.seat l.seat

abbrev pub decreases-turns : goal.decreases-turns
decreases-turns l = l.seat.view.plan.seats * l.seat.view.plan.changes - length l.seat.view.seen
