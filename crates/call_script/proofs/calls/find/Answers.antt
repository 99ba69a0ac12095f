use Rattle.call_script.proofs.Spelled.{find_words}
use Rattle.call_script.proofs.calls.find.Goals as goal

pub returns-in_default : goal.returns-in_default
returns-in_default c = λ call spelled. c.in_default.ensures.none _ (find_words _ call spelled).2
