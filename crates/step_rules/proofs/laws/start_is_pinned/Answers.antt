use Rattle.step_rules.proofs.World.Pinned.{start_pinned}
use Rattle.step_rules.proofs.laws.start_is_pinned.Goals as goal

pub returns : goal.returns
returns c = start_pinned
