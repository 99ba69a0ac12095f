use Rattle.std.proofs.Common.{refl}
use Rattle.seat_history.specs.declared.call.Call.TheVariants.{Load}
use Rattle.call_script.proofs.calls.load.Goals as goal

pub returns-in-None : goal.returns-in-None
returns-in-None c = (Load c.in-Some.number, (refl, (c.in-Some.ensures.found, tt)), c.in-None.ensures)
