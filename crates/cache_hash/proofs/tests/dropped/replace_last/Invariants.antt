use Rattle.big_atomic.specs.Ready.{IsReady}
use Rattle.cache_hash.proofs.tests.dropped.replace_last.Given as goal

abbrev pub invariant-loop-times : goal.invariant-loop-times
invariant-loop-times g l = IsReady l.shared l.seat
