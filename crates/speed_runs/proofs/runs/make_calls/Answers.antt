use Rattle.speed_runs.proofs.Ends.{ran}
use Rattle.speed_runs.proofs.runs.make_calls.Goals as goal

pub returns-clause-ran : goal.returns-clause-ran
returns-clause-ran g c = ran c.make_calls.ensures.come
