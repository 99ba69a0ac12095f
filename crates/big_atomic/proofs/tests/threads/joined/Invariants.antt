use Rattle.std.proofs.Common.{All, length}
use Rattle.big_atomic.specs.Seats.{IsQuietOf}
use Rattle.big_atomic.specs.declared.tests.threads.Counting.{Counting}
use Rattle.step_rules.specs.SeatData.{IsOf}
use Rattle.big_atomic.proofs.tests.threads.joined.Given as goal

abbrev pub invariant-loop-counting : goal.invariant-loop-counting
invariant-loop-counting g l = All (λ (counting : Counting). IsOf l.shared counting.seat) l.all.items × All (IsQuietOf l.shared) l.seats.items

abbrev pub decreases-loop-counting : goal.decreases-loop-counting
decreases-loop-counting g l = length l.all.items
