use Rattle.big_atomic.proofs.CountingUp.{register_counts}
use Rattle.big_atomic.proofs.laws.register_counts.Goals as goal

pub returns : goal.returns
returns c = register_counts
