use Rattle.speed_runs.proofs.Ends.{ran_both}
use Rattle.speed_runs.proofs.runs.take_in.Goals as goal

pub returns-clause-ran : goal.returns-clause-ran
returns-clause-ran g c = ran_both c.requires.ran c.requires.theirs c.join.ensures.joined
