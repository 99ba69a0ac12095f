use Rattle.call_script.proofs.LineOrders.{line_order}
use Rattle.call_script.proofs.laws.rows_are_orders.Goals as goal

pub returns : goal.returns
returns c = line_order
