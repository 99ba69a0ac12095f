use Rattle.step_rules.proofs.Keeps.Agreeing.{later_found}
use Rattle.step_rules.proofs.laws.later_found.Goals as goal

pub returns : goal.returns
returns c = later_found
