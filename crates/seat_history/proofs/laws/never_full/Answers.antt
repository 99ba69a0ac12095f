use Rattle.seat_history.proofs.Replies.{reply_not_full}
use Rattle.seat_history.proofs.laws.never_full.Goals as goal

pub returns : goal.returns
returns c = reply_not_full
