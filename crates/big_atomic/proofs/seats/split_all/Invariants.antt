use Rattle.std.proofs.Common.{length}
use Rattle.big_atomic.proofs.Sharing.{SplitSoFar}
use Rattle.big_atomic.proofs.seats.split_all.Given as goal

abbrev pub invariant-loop-alloc : goal.invariant-loop-alloc
invariant-loop-alloc l = SplitSoFar l.shared l.fn.seat l.first l.seats.items

abbrev pub decreases-loop-alloc : goal.decreases-loop-alloc
decreases-loop-alloc l = length l.first.view.numbers
