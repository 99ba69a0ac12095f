use Rattle.call_script.proofs.ClosedRun.{closed_run}
use Rattle.call_script.proofs.laws.closed_lines_run.Goals as goal

pub returns : goal.returns
returns c = closed_run
