use Rattle.big_atomic.specs.Sums.{Shows}
use Rattle.cache_hash.proofs.UpdateSums.{update_adds}
use Rattle.cache_hash.proofs.laws.update_adds.Goals as goal

pub returns : goal.returns
returns g c = λ A number shown amount k key answer before after sum. update_adds A (Shows number shown) amount k key answer before after sum
