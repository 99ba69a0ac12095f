use Rattle.cache_hash.proofs.LaterPlaces.{late_insert_stands_later}
use Rattle.cache_hash.proofs.laws.late_insert_stands_later.Goals as goal

pub returns : goal.returns
returns c = late_insert_stands_later
