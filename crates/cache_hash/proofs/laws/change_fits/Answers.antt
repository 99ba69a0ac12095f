use Rattle.cache_hash.proofs.Room.{change_fits}
use Rattle.cache_hash.proofs.laws.change_fits.Goals as goal

pub returns : goal.returns
returns c = change_fits
