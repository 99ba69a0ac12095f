use Rattle.std.proofs.Common.{length, ◌*◌, ◌-◌}
use Rattle.big_atomic.proofs.Versioned.{AtStart}
use Rattle.big_atomic.proofs.starting.claim_versioned.Given as goal

-- the version and the word were found, and no claim serves
abbrev pub invariant-turns : goal.invariant-turns
invariant-turns l = AtStart l.cell l.start.version l.start.word l.fn.seat l.seat

abbrev pub decreases-turns : goal.decreases-turns
decreases-turns l = l.seat.view.plan.seats * l.seat.view.plan.changes - length l.seat.view.seen
