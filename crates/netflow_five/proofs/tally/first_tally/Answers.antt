use Rattle.std.proofs.Common.{refl, arith}
use Rattle.netflow_five.proofs.Counted.{tally_first}
use Rattle.netflow_five.proofs.tally.first_tally.Goals as goal

pub returns : goal.returns
returns c = tally_first c.args.mark _ (omega arith) refl (omega arith) refl refl
