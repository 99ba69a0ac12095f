-- The batches and their seats, as contracts see them.
use Rattle.std.specs.Prelude.{◌≡◌, ℕ, ◌+◌, ◌≤◌, ◌<◌, true, false, ◌∷◌, ◌++◌, [], length, Some, None}
use Rattle.std.specs.declared.option.Option.{Option}
use Rattle.atomic_table.specs.Seated.{TableId}
use Rattle.worker_gate.specs.Numbers.{AtMostOnce, EachOnce}
use Rattle.worker_gate.specs.Rule.{IsBatchPlan}
use Rattle.worker_gate.specs.declared.view.BatchPlan.{BatchPlan}
use Rattle.worker_gate.specs.declared.view.BatchView.{BatchView}

-- which batches they are, and their plan
pub record BatchesData : Type 0 where
  pub object : TableId
  pub plan : BatchPlan

-- which batches a seat draws, and what it knows
pub record BatchSeatData : Type 0 where
  pub object : TableId
  pub view : BatchView

-- the seat is of these batches
pub record IsBatchOf (batches : BatchesData) (seat : BatchSeatData) : Type 0 where
  pub object : seat.object ≡ batches.object
  pub plan : seat.view.plan ≡ batches.plan

-- what holds of the view of every seat that holds a number
pub record IsLawful (v : BatchView) : Type 0 where
  pub plan : IsBatchPlan v.plan
  pub some_number : 0 < length v.numbers
  pub numbers : AtMostOnce v.plan.seats v.numbers
  -- no batch was drawn twice, and all are below the count
  pub once : AtMostOnce v.plan.count v.drawn
  pub few : length v.drawn ≤ v.plan.count
  -- with all numbers joined and None answered to one of them, each batch was drawn once
  pub whole : length v.numbers ≡ v.plan.seats → v.ended ≡ true → EachOnce v.plan.count v.drawn
  -- the cursor runs past the count by the seats' number at most
  pub found : v.found ≤ v.plan.count + v.plan.seats
  pub fresh : v.fresh ≡ true → (v.drawn ≡ []) × (v.ended ≡ false)

-- what holds of every seat
pub record IsBatchSeat (seat : BatchSeatData) : Type 0 where
  pub lawful : IsLawful seat.view
  pub quiet : seat.view.pending ≡ false

-- what `next` makes of its seat: the batch found in the cursor is drawn, or the cursor was found at or past the count
abbrev pub Draws : BatchSeatData → BatchSeatData → Option ℕ → Type 0
Draws old new (Some x) = (x < old.view.plan.count) × (new ≡ record old { view = record old.view { found = x; drawn = old.view.drawn ++ x ∷ []; fresh = false } })
Draws old new None = (old.view.plan.count ≤ new.view.found)
    × (new ≡ record old { view = record old.view { found = new.view.found; late = new.view.late; ended = true; fresh = false } })
