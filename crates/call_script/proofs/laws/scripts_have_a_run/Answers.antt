use Rattle.call_script.proofs.SomeRun.{script_run}
use Rattle.call_script.proofs.laws.scripts_have_a_run.Goals as goal

pub returns : goal.returns
returns c = script_run
