use Rattle.big_atomic.specs.Ready.{IsReady}
use Rattle.cache_hash.proofs.tests.play.Given as goal

abbrev pub invariant-loop-key : goal.invariant-loop-key
invariant-loop-key g l = IsReady l.shared l.seat
