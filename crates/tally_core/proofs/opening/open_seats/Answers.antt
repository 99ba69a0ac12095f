use Rattle.tally_core.proofs.Begun.{seated}
use Rattle.tally_core.proofs.opening.open_seats.Goals as goal

pub returns : goal.returns
returns c = record { opened = seated c.in-Ok.ensures.built.1 c.in-Ok.ensures.law.sound.some_number c.in_ok-seats.ensures.split }
