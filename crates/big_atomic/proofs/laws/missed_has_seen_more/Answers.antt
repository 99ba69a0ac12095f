use Rattle.big_atomic.proofs.Missing.{missed_has_seen_more}
use Rattle.big_atomic.proofs.laws.missed_has_seen_more.Goals as goal

pub returns : goal.returns
returns c = missed_has_seen_more
