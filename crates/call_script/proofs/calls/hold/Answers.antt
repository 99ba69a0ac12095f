use Rattle.std.proofs.Common.{refl}
use Rattle.seat_history.specs.declared.call.Call.TheVariants.{Hold}
use Rattle.call_script.proofs.calls.hold.Goals as goal

pub returns-in-None : goal.returns-in-None
returns-in-None c = (Hold c.in-Some.number, (refl, (c.in-Some.ensures.found, tt)), c.in-None.ensures)
