use Rattle.big_atomic.proofs.Sharing.{fresh_ready}
use Rattle.big_atomic.proofs.laws.fresh_is_ready.Goals as goal

pub returns : goal.returns
returns c = fresh_ready
