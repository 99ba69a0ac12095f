use Rattle.call_script.proofs.OneRun.{one_plain_run}
use Rattle.call_script.proofs.laws.order_has_one_plain_run.Goals as goal

pub returns : goal.returns
returns c = one_plain_run
