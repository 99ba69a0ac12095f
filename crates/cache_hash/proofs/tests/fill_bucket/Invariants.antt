use Rattle.big_atomic.specs.Ready.{IsReady}
use Rattle.cache_hash.proofs.tests.fill_bucket.Given as goal

abbrev pub invariant-loop-number : goal.invariant-loop-number
invariant-loop-number g l = IsReady l.shared l.seat

abbrev pub invariant-loop-number-2 : goal.invariant-loop-number-2
invariant-loop-number-2 g l = IsReady l.shared l.seat
