use Rattle.std.proofs.Common.{arith, refl}
use Rattle.stock_room.proofs.Putting.{none_put}
use Rattle.stock_room.proofs.orders.reserve_all.Goals as goal

pub loop-order-init : goal.loop-order-init
loop-order-init c = let changes = c.requires.unused.changes in
    (none_put c.args.shared.now c.args.seat c.requires.room c.requires.unused, omega (arith, changes), record { numbers = refl; first = refl })
