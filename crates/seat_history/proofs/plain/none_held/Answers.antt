use Rattle.std.proofs.Common.{None}
use Rattle.seat_history.proofs.Blank.{get_or_replicate_same}
use Rattle.seat_history.specs.declared.plain.TheConstants.{CALLERS}
use Rattle.seat_history.proofs.plain.none_held.Goals as goal

pub returns : goal.returns
returns c = λ i caller. get_or_replicate_same CALLERS caller None i
