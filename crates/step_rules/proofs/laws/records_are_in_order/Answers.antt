use Rattle.step_rules.proofs.Order.LastInserts.{bucket_order}
use Rattle.step_rules.proofs.laws.records_are_in_order.Goals as goal

pub returns : goal.returns
returns c = bucket_order
