use Rattle.std.proofs.Common.{◌≡◌, ℕ, ◌++◌, map}
use Rattle.std.specs.Vec.Iter.{into_iter_items}
use Rattle.step_rules.specs.SeatData.{SeatData}
use Rattle.stock_room.proofs.session.number_seats.Given as goal

abbrev pub invariant-loop-seat : goal.invariant-loop-seat
invariant-loop-seat l = map (λ (job : SeatData × ℕ). job.0) l.jobs.items ++ into_iter_items l.seat-iterator ≡ l.fn.seats.items
