use Rattle.cache_hash.proofs.Room.{unused_has_nodes}
use Rattle.cache_hash.proofs.laws.unused_has_nodes.Goals as goal

pub returns : goal.returns
returns c = unused_has_nodes
