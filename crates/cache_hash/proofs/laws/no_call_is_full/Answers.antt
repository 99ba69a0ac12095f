use Rattle.cache_hash.proofs.Room.{no_call_is_full}
use Rattle.cache_hash.proofs.laws.no_call_is_full.Goals as goal

pub returns : goal.returns
returns c = no_call_is_full
