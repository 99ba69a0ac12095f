use Rattle.netflow_five.proofs.LostSums.{unbroken_line}
use Rattle.netflow_five.proofs.laws.unbroken_numbers_lose_nothing.Goals as goal

pub returns : goal.returns
returns c = unbroken_line
