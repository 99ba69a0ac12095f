use Rattle.netflow_five.proofs.OneList.{losses_unique, some_losses}
use Rattle.netflow_five.proofs.laws.losses_are_one_list.Goals as goal

pub returns-clause-some : goal.returns-clause-some
returns-clause-some c = some_losses

pub returns-clause-one : goal.returns-clause-one
returns-clause-one c = losses_unique
