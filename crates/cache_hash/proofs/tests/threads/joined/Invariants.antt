use Rattle.std.proofs.Common.{All, length}
use Rattle.big_atomic.specs.Seats.{IsQuietOf}
use Rattle.cache_hash.specs.declared.tests.threads.Worked.{Worked}
use Rattle.step_rules.specs.SeatData.{IsOf}
use Rattle.cache_hash.proofs.tests.threads.joined.Given as goal

abbrev pub invariant-loop-worked : goal.invariant-loop-worked
invariant-loop-worked g l = All (λ (worked : Worked). IsOf l.shared worked.seat) l.all.items × All (IsQuietOf l.shared) l.seats.items

abbrev pub decreases-loop-worked : goal.decreases-loop-worked
decreases-loop-worked g l = length l.all.items
