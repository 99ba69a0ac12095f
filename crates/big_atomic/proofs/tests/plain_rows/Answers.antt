use Rattle.seat_history.specs.Plain.{object_of}
use Rattle.big_atomic.proofs.tests.plain_rows.Goals as goal

pub call-requires-clause-held : goal.call-requires-clause-held
call-requires-clause-held c = c.drawn-call.ensures.free ((object_of c.loop.plain).held 0)
