use Rattle.std.proofs.Common.{◌≡◌, ◌*◌, ◌-◌, length}
use Rattle.cache_hash.specs.Asking.{Puts}
use Rattle.cache_hash.specs.Changing.{Begun, CameBy, IsAtTurn}
use Rattle.cache_hash.proofs.updates.update.Given as goal

-- the cell's version was found, its node is claimed, and no turn has won or ended
abbrev pub invariant-turns : goal.invariant-turns
invariant-turns g l = (b : Begun l.shared l.fn.key) × (b.before ≡ l.fn.seat) × CameBy (Puts (λ there val. goal.F-post g l.fn.f there val)) b × IsAtTurn b l.cell l.start l.scanned l.seat

abbrev pub decreases-turns : goal.decreases-turns
decreases-turns g l = l.seat.view.plan.seats * l.seat.view.plan.changes - length l.seat.view.seen
