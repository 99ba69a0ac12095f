use Rattle.seat_history.proofs.SamePairs.{same_pairs}
use Rattle.seat_history.proofs.laws.pairs_are_one.Goals as goal

pub returns : goal.returns
returns c = same_pairs
