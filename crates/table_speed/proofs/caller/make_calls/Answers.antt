use Rattle.std.proofs.Common.{refl}
use Rattle.table_speed.proofs.Finds.{nothing_found}
use Rattle.table_speed.proofs.caller.make_calls.Goals as goal

pub loop-i-init : goal.loop-i-init
loop-i-init c = (nothing_found c.requires.come c.requires.filling, record { numbers = refl; first = refl })
