use Rattle.step_rules.proofs.Keeps.Agreeing.{look_tells}
use Rattle.step_rules.proofs.laws.looks_are_recent.Goals as goal

pub returns : goal.returns
returns c = look_tells
