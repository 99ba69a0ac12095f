use Rattle.std.proofs.Common.{refl, rules}
use Rattle.stock_room.proofs.Putting.{put_more}
use Rattle.stock_room.proofs.orders.put_in.Goals as goal

pub returns-in-Done-clause-stocked : goal.returns-in-Done-clause-stocked
returns-in-Done-clause-stocked c done lots = put_more lots c.args.lot c.in-Done.ensures.ready c.in-Done.ensures.inserted refl refl (search rules)
