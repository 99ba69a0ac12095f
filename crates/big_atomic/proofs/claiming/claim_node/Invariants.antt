use Rattle.std.proofs.Common.{length, ◌*◌, ◌-◌}
use Rattle.big_atomic.specs.Calling.{HasSeen, TakesFew}
use Rattle.hazard_claims.specs.Claiming.{claim_number}
use Rattle.step_rules.specs.SeatData.{IsSeat}
use Rattle.big_atomic.proofs.claiming.claim_node.Given as goal

-- the word was found last in the register, no more was made than looks, no claim serves, each turn so far was lost, and the seat is lawful
abbrev pub invariant-turns : goal.invariant-turns
invariant-turns l = record { sees : HasSeen (claim_number l.claim) l.reg l.seen 0 l.fn.seat l.seat; few : TakesFew 1 l.fn.seat l.seat; law : IsSeat l.seat }

abbrev pub decreases-turns : goal.decreases-turns
decreases-turns l = l.seat.view.plan.seats * l.seat.view.plan.changes - length l.seat.view.seen
