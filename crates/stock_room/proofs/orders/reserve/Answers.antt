use Rattle.std.proofs.Common.{refl, rules}
use Rattle.cache_hash.proofs.Room.{update_fits}
use Rattle.cache_hash.specs.declared.answers.Update.TheVariants.{Full}
use Rattle.stock_room.proofs.Putting.{put_none}
use Rattle.stock_room.proofs.orders.reserve.Goals as goal

pub unreachable-requires : goal.unreachable-requires
unreachable-requires c =
    let e = c.in-Full.ensures in
    let answer = Full c.in-Full.need c.in-Full.free in
    (update_fits c.args.shared.now c.args.order.item answer c.args.seat.now c.update.new.seat c.requires.fits e.ready e.updated).not_full c.in-Full.need c.in-Full.free refl

pub returns-clause-stocked : goal.returns-clause-stocked
returns-clause-stocked c = put_none c.args.order c.in-Done.there c.in-Done.ensures.ready c.in-Done.ensures.updated (λ there val puts. search rules)
