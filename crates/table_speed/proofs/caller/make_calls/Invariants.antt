use Rattle.big_atomic.specs.Seats.{Stays}
use Rattle.table_speed.specs.Counting.{HasFound}
use Rattle.table_speed.proofs.caller.make_calls.Given as goal

abbrev pub invariant-loop-i : goal.invariant-loop-i
invariant-loop-i l = HasFound l.asked l.shared l.i l.caller.ran.seat l.caller.found l.caller.ran.done × Stays l.fn.ran.seat l.caller.ran.seat
