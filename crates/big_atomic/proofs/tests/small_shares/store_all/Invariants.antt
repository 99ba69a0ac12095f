use Rattle.big_atomic.specs.Ready.{IsReady}
use Rattle.big_atomic.proofs.tests.small_shares.store_all.Given as goal

abbrev pub invariant-loop-number : goal.invariant-loop-number
invariant-loop-number g l = IsReady l.shared l.seat
