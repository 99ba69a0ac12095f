use Rattle.big_atomic.proofs.Fitting.{records_fit}
use Rattle.big_atomic.proofs.laws.records_fit.Goals as goal

pub returns : goal.returns
returns c = records_fit
