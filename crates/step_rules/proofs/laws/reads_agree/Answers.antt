use Rattle.step_rules.proofs.Keeps.Agreeing.{reads_agree_at}
use Rattle.step_rules.proofs.laws.reads_agree.Goals as goal

pub returns : goal.returns
returns c = reads_agree_at
