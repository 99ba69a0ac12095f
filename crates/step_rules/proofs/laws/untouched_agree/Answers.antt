use Rattle.step_rules.proofs.Keeps.Agreeing.{untouched_agrees}
use Rattle.step_rules.proofs.laws.untouched_agree.Goals as goal

pub returns : goal.returns
returns c = untouched_agrees
