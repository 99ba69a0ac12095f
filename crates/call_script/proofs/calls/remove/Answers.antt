use Rattle.call_script.proofs.Spelled.{remove_words}
use Rattle.call_script.proofs.calls.remove.Goals as goal

pub returns-in_default : goal.returns-in_default
returns-in_default c = λ call spelled. c.in_default.ensures.none _ (remove_words _ call spelled).2
