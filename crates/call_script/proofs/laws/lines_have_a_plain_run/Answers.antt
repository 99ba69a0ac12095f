use Rattle.call_script.proofs.SomeRun.{some_plain_run}
use Rattle.call_script.proofs.laws.lines_have_a_plain_run.Goals as goal

pub returns : goal.returns
returns c = some_plain_run
