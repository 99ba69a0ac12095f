use Rattle.step_rules.proofs.Line.Legal.{line_called}
use Rattle.step_rules.proofs.laws.closed_line_can_be_called.Goals as goal

pub returns : goal.returns
returns c = line_called
