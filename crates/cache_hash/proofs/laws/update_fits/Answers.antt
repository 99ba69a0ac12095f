use Rattle.cache_hash.proofs.Room.{update_fits}
use Rattle.cache_hash.proofs.laws.update_fits.Goals as goal

pub returns : goal.returns
returns g c = update_fits
