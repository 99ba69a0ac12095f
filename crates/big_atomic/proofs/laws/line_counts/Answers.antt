use Rattle.big_atomic.proofs.Lines.{line_counts}
use Rattle.big_atomic.proofs.laws.line_counts.Goals as goal

pub returns : goal.returns
returns c = line_counts
