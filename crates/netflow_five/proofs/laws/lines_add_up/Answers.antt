use Rattle.netflow_five.specs.Engines.{sent_by}
use Rattle.netflow_five.proofs.LostSums.{joined_line, some_meet}
use Rattle.netflow_five.proofs.laws.lines_add_up.Goals as goal

pub returns-clause-meet : goal.returns-clause-meet
returns-clause-meet c = λ engine marks others. some_meet (sent_by engine marks) (sent_by engine others)

pub returns-clause-joined : goal.returns-clause-joined
returns-clause-joined c = joined_line
