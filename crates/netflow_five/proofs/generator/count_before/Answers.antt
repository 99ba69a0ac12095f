use Rattle.netflow_five.proofs.Generated.{records_closed}
use Rattle.netflow_five.proofs.generator.count_before.Goals as goal

pub returns : goal.returns
returns c = records_closed c.args.i
