use Rattle.call_script.proofs.OneRun.{one_run}
use Rattle.call_script.proofs.laws.replies_tell_the_rest.Goals as goal

pub returns : goal.returns
returns c = one_run
