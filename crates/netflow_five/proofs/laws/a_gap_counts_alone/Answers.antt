use Rattle.netflow_five.proofs.LostSums.{one_gap}
use Rattle.netflow_five.proofs.laws.a_gap_counts_alone.Goals as goal

pub returns : goal.returns
returns c = one_gap
