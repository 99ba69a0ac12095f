use Rattle.big_atomic.specs.Ready.{IsReady}
use Rattle.big_atomic.proofs.tests.play.Given as goal

abbrev pub invariant-loop-call : goal.invariant-loop-call
invariant-loop-call g l = IsReady l.shared l.seat
