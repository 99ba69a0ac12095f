use Rattle.call_script.proofs.Spelled.{insert_words}
use Rattle.call_script.proofs.calls.insert.Goals as goal

pub returns-in_default : goal.returns-in_default
returns-in_default c = λ call spelled. c.in_default.ensures.none _ (insert_words _ _ call spelled).3

pub returns-in_default-tuple_of : goal.returns-in_default-tuple_of
returns-in_default-tuple_of c = λ call spelled. c.in_default-tuple_of.ensures.none _ (insert_words _ _ call spelled).4
