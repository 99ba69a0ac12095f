use Rattle.big_atomic.proofs.Sharing.{quiet_ready}
use Rattle.big_atomic.proofs.laws.quiet_is_ready.Goals as goal

pub returns : goal.returns
returns c = quiet_ready
