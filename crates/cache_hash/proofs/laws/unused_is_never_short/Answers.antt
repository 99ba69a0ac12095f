use Rattle.cache_hash.proofs.Room.{unused_is_never_short}
use Rattle.cache_hash.proofs.laws.unused_is_never_short.Goals as goal

pub returns : goal.returns
returns c = unused_is_never_short
