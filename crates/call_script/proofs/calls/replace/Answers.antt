use Rattle.call_script.proofs.Spelled.{replace_words}
use Rattle.call_script.proofs.calls.replace.Goals as goal

pub returns-in_default : goal.returns-in_default
returns-in_default c = λ call spelled. c.in_default.ensures.none _ (replace_words _ _ _ call spelled).4

pub returns-in_default-tuple_of : goal.returns-in_default-tuple_of
returns-in_default-tuple_of c = λ call spelled. c.in_default-tuple_of.ensures.none _ (replace_words _ _ _ call spelled).5

pub returns-in_default-tuple_of-2 : goal.returns-in_default-tuple_of-2
returns-in_default-tuple_of-2 c = λ call spelled. c.in_default-tuple_of-2.ensures.none _ (replace_words _ _ _ call spelled).6
