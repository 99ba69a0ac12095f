use Rattle.std.proofs.Common.{refl}
use Rattle.seat_history.specs.declared.call.Call.TheVariants.{Store}
use Rattle.call_script.proofs.Spelled.{store_words}
use Rattle.call_script.proofs.calls.store.Goals as goal

pub returns-in_default-tuple_of : goal.returns-in_default-tuple_of
returns-in_default-tuple_of c = λ call spelled. c.in_default-tuple_of.ensures.none _ (store_words _ _ call spelled).4

pub returns-in-None : goal.returns-in-None
returns-in-None c = (Store c.in-Some.number c.in-Some-tuple_of.new, (refl, (c.in-Some.ensures.found, (c.in-Some-tuple_of.ensures.found, tt))), c.in-None.ensures)
