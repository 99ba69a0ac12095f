use Rattle.cache_hash.proofs.LaterPlaces.{found_is_known}
use Rattle.cache_hash.proofs.laws.found_is_known.Goals as goal

pub returns : goal.returns
returns c = found_is_known
