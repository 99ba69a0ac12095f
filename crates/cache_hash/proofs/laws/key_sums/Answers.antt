use Rattle.big_atomic.specs.Sums.{Shows}
use Rattle.cache_hash.proofs.KeySums.{key_sums}
use Rattle.cache_hash.proofs.laws.key_sums.Goals as goal

pub returns : goal.returns
returns c = λ A number shown k. key_sums A (Shows number shown) k
