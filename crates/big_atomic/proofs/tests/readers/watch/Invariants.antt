use Rattle.big_atomic.specs.Ready.{IsReady}
use Rattle.big_atomic.proofs.tests.readers.watch.Given as goal

abbrev pub invariant-loop : goal.invariant-loop
invariant-loop g l = IsReady l.shared l.seat
