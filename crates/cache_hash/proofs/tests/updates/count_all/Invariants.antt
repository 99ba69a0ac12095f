use Rattle.big_atomic.specs.Ready.{IsReady}
use Rattle.cache_hash.proofs.tests.updates.count_all.Given as goal

abbrev pub invariant-loop-turn : goal.invariant-loop-turn
invariant-loop-turn g l = IsReady l.shared l.seat
