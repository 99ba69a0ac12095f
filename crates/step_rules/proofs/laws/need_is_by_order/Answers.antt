use Rattle.step_rules.proofs.Order.LastInserts.{need_told}
use Rattle.step_rules.proofs.laws.need_is_by_order.Goals as goal

pub returns : goal.returns
returns c = need_told
