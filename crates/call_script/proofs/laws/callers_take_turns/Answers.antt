use Rattle.call_script.proofs.Turns.{may_turn}
use Rattle.call_script.proofs.laws.callers_take_turns.Goals as goal

pub returns : goal.returns
returns c = may_turn
