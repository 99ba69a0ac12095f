use Rattle.big_atomic.specs.Ready.{IsReady}
use Rattle.big_atomic.proofs.tests.threads.count_up.Given as goal

abbrev pub invariant-loop-i : goal.invariant-loop-i
invariant-loop-i g l = IsReady l.shared l.seat
