use Rattle.std.proofs.Common.{◌*◌, ◌-◌, ◌≡◌, false, length}
use Rattle.big_atomic.specs.Giving.{Begun, Decided, Knows}
use Rattle.seat_history.specs.declared.call.Call.TheVariants.{Store}
use Rattle.seat_history.specs.declared.reply.Reply.TheVariants.{Done}
use Rattle.big_atomic.proofs.stores.store.Given as goal

-- the register's version was found, its node is claimed, and its record read
abbrev pub invariant-turns : goal.invariant-turns
invariant-turns l = (b : Begun l.shared l.fn.reg l.fn.new Done (Store l.fn.reg l.fn.new)) × (b.before ≡ l.fn.seat) × (b.once ≡ false)
    × Knows b (Decided l.turn.version l.turn.word l.turn.rec l.turn.kept) l.seat

abbrev pub decreases-turns : goal.decreases-turns
decreases-turns l = l.seat.view.plan.seats * l.seat.view.plan.changes - length l.seat.view.seen
