use Rattle.cache_hash.proofs.UpdateSums.{update_counts}
use Rattle.cache_hash.proofs.laws.update_counts.Goals as goal

pub returns : goal.returns
returns g c = update_counts
