use Rattle.big_atomic.proofs.Stopping.{HasCopied}
use Rattle.cache_hash.proofs.tests.stops.refresh_until.Given as goal

abbrev pub invariant-loop-j : goal.invariant-loop-j
invariant-loop-j l = HasCopied l.shared l.cell l.node l.version l.j l.seat
