use Rattle.big_atomic.specs.Ready.{IsReady}
use Rattle.cache_hash.proofs.tests.scripts.play_lines.Given as goal

abbrev pub invariant-loop-call : goal.invariant-loop-call
invariant-loop-call g l = IsReady l.shared l.seat
