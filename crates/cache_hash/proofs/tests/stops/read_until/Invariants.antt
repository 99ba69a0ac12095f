use Rattle.big_atomic.proofs.Stopping.{HasRead}
use Rattle.cache_hash.proofs.tests.stops.read_until.Given as goal

abbrev pub invariant-loop-j : goal.invariant-loop-j
invariant-loop-j l = HasRead l.shared l.cell l.j l.seat
