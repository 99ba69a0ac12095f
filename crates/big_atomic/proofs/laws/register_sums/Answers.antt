use Rattle.big_atomic.proofs.RegisterSums.{register_sums}
use Rattle.big_atomic.specs.Sums.{Shows}
use Rattle.big_atomic.proofs.laws.register_sums.Goals as goal

pub returns : goal.returns
returns c = λ A number shown reg. register_sums A (Shows number shown) reg
