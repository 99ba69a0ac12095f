use Rattle.std.proofs.Common.{refl}
use Rattle.register_speed.proofs.Loads.{nothing_loaded}
use Rattle.register_speed.proofs.caller.make_calls.Goals as goal

pub loop-i-init : goal.loop-i-init
loop-i-init c = (nothing_loaded c.requires.come, record { numbers = refl; first = refl })
