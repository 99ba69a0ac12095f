use Rattle.netflow_five.proofs.LostSums.{line_stays}
use Rattle.netflow_five.proofs.laws.other_engines_leave_a_line.Goals as goal

pub returns : goal.returns
returns c = line_stays
