use Rattle.step_rules.proofs.Order.OneOrder.{one_order}
use Rattle.step_rules.proofs.laws.records_are_one.Goals as goal

pub returns : goal.returns
returns c = one_order
