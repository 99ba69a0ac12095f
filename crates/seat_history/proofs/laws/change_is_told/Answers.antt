use Rattle.seat_history.proofs.Changed.{change_told}
use Rattle.seat_history.proofs.laws.change_is_told.Goals as goal

pub returns : goal.returns
returns c = change_told
