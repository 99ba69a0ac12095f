use Rattle.std.proofs.Common.{◌*◌, ◌-◌, length}
use Rattle.big_atomic.specs.Seats.{Stays}
use Rattle.board_example.specs.Rules.{Works}
use Rattle.board_example.proofs.member.count_up.Given as goal

abbrev pub invariant-tries : goal.invariant-tries
invariant-tries l = Works l.shared l.member × Stays l.fn.member.seat l.member.seat

abbrev pub decreases-tries : goal.decreases-tries
decreases-tries l = l.shared.plan.seats * l.shared.plan.changes - length l.member.seat.view.seen
