use Rattle.big_atomic.proofs.Sharing.{ready_quiet}
use Rattle.big_atomic.proofs.laws.ready_is_quiet.Goals as goal

pub returns : goal.returns
returns c = ready_quiet
