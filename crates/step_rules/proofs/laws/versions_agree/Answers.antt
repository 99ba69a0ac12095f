use Rattle.step_rules.proofs.Keeps.Agreeing.{version_agrees}
use Rattle.step_rules.proofs.laws.versions_agree.Goals as goal

pub returns : goal.returns
returns c = version_agrees
