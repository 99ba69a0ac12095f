use Rattle.big_atomic.specs.Seats.{Stays}
use Rattle.board_example.specs.Rules.{Works}
use Rattle.board_example.proofs.member.take_part.Given as goal

abbrev pub invariant-loop-round : goal.invariant-loop-round
invariant-loop-round l = Works l.shared l.member × Stays l.fn.seat l.member.seat
