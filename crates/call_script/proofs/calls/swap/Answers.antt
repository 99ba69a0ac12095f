use Rattle.std.proofs.Common.{refl}
use Rattle.seat_history.specs.declared.call.Call.TheVariants.{Swap}
use Rattle.call_script.proofs.Spelled.{swap_words}
use Rattle.call_script.proofs.calls.swap.Goals as goal

pub returns-in_default-tuple_of : goal.returns-in_default-tuple_of
returns-in_default-tuple_of c = λ call spelled. c.in_default-tuple_of.ensures.none _ (swap_words _ _ _ call spelled).5

pub returns-in_default-tuple_of-2 : goal.returns-in_default-tuple_of-2
returns-in_default-tuple_of-2 c = λ call spelled. c.in_default-tuple_of-2.ensures.none _ (swap_words _ _ _ call spelled).6

pub returns-in-None : goal.returns-in-None
returns-in-None c = (
  Swap c.in-Some.number c.in-Some-tuple_of.old c.in-Some-tuple_of-2.new,
  (refl, (c.in-Some.ensures.found, (c.in-Some-tuple_of.ensures.found, (c.in-Some-tuple_of-2.ensures.found, tt)))),
  c.in-None.ensures,
)
