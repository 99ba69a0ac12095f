use Rattle.register_speed.specs.Counting.{HasLoaded}
use Rattle.big_atomic.specs.Seats.{Stays}
use Rattle.register_speed.proofs.caller.make_calls.Given as goal

abbrev pub invariant-loop-i : goal.invariant-loop-i
invariant-loop-i l = HasLoaded l.asked l.shared l.i l.caller.ran.seat l.caller.loaded l.caller.ran.done × Stays l.fn.ran.seat l.caller.ran.seat
