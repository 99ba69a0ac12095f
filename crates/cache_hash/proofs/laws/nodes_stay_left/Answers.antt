use Rattle.cache_hash.proofs.Room.{nodes_stay_left}
use Rattle.cache_hash.proofs.laws.nodes_stay_left.Goals as goal

pub returns : goal.returns
returns c = nodes_stay_left
