-- All workers of a tally, and what the closed object has.
use Rattle.std.specs.Prelude.{◌≡◌, ◌<◌, ◌≤◌, ℕ, zero, suc, All, Bool, true, false, List, [], ◌++◌, Option, Some, None, length, map, slice_index_or}
use Rattle.flow_fold.specs.Flows.{Flows}
use Rattle.step_rules.specs.Closing.{ClosedData}
use Rattle.step_rules.specs.SeatData.{ObjectData}
use Rattle.step_rules.specs.declared.view.Stand.{Stand}
use Rattle.tally_core.specs.Adding.{HasMoreKeys, HasTallied, IsTallied, plan_of_tally}
use Rattle.tally_core.specs.Drawing.{Drawer, HasBegun, HasWorked, drawn_by}
use Rattle.tally_core.specs.Draws.{batches_of}
use Rattle.tally_core.specs.declared.draws.Draw.{Draw}
use Rattle.tally_core.specs.declared.tallying.Tallied.{Tallied}
use Rattle.worker_gate.specs.Numbers.{EachOnce}
use Rattle.worker_gate.specs.Seats.{BatchesData}

-- whether the worker at this place was answered Full
abbrev pub full_at : List Drawer → ℕ → Bool
full_at drawers w = slice_index_or (map (λ (one : Drawer). one.told.full) drawers) w false

-- the batches that it drew
abbrev pub drawn_at : List Drawer → ℕ → List ℕ
drawn_at drawers w = slice_index_or (map (λ (one : Drawer). one.told.drawn.items) drawers) w []

-- it was answered Full
abbrev pub IsFullAt : List Drawer → ℕ → Type 0
IsFullAt drawers w = (w < length drawers) × (full_at drawers w ≡ true)

-- each worker is before its first draw
abbrev pub HaveBegun : ObjectData → BatchesData → List Drawer → Type 0
HaveBegun shared batches drawers = All (HasBegun shared batches) drawers

-- each worker has done
abbrev pub HaveWorked : ObjectData → BatchesData → Flows → List Drawer → Type 0
HaveWorked shared batches pairs drawers = All (HasWorked shared batches pairs) drawers

-- the lists of the first n workers, by rising number
abbrev pub joined : {X : Type 0} → ℕ → (ℕ → List X) → List X
joined zero lists = []
joined (suc n) lists = joined n lists ++ lists n

-- pairs were added by workers on an object of their plan, which was closed then; full where one of them was answered Full, and else each batch
-- was drawn once
pub record HasAddedUp (workers flows buckets : ℕ) (pairs : Flows) (closed : ClosedData) (draws : List Draw) (full : Bool) : Type 0 where
  pub plan_is : closed.plan ≡ plan_of_tally pairs workers flows buckets
  pub callers : All (λ (s : Stand). s.by < closed.plan.seats) closed.stands
  pub drawn : ℕ → List ℕ
  pub was_full : ℕ → Bool
  pub tallied : HasTallied workers pairs drawn was_full closed
  pub draws_are : draws ≡ joined workers (λ w. drawn_by w (drawn w))
  pub once : full ≡ false → EachOnce (batches_of (length pairs)) (joined workers drawn)
  pub some : full ≡ true → (w : ℕ) × (w < workers) × (was_full w ≡ true)
  pub none : full ≡ false → (w : ℕ) → was_full w ≡ false

-- what comes of a tally: no more flows than so many, or more keys
abbrev pub TalliesTo : Flows → ℕ → ℕ → ℕ → Option Tallied → Type 0
TalliesTo pairs workers flows buckets (Some tallied) =
    IsTallied (plan_of_tally pairs workers flows buckets) pairs tallied.flows tallied.closed tallied.draws × (length tallied.flows ≤ flows)
TalliesTo pairs workers flows buckets None = HasMoreKeys flows pairs
