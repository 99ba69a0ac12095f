use Rattle.cache_hash.proofs.LaterPlaces.{late_replace_stands_later}
use Rattle.cache_hash.proofs.laws.late_replace_stands_later.Goals as goal

pub returns : goal.returns
returns c = late_replace_stands_later
