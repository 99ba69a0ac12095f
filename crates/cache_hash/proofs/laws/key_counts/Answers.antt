use Rattle.cache_hash.proofs.KeySums.{key_counts}
use Rattle.cache_hash.proofs.laws.key_counts.Goals as goal

pub returns : goal.returns
returns c = key_counts
