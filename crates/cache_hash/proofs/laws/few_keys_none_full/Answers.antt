use Rattle.cache_hash.proofs.FewKeys.{few_keys_none_full}
use Rattle.cache_hash.proofs.laws.few_keys_none_full.Goals as goal

pub returns : goal.returns
returns c = few_keys_none_full
