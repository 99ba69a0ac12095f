use Rattle.tally_core.proofs.Limits.{fits}
use Rattle.tally_core.proofs.laws.script_plan_fits.Goals as goal

pub returns : goal.returns
returns c = fits
