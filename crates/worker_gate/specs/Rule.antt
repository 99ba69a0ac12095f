-- The rule of the batches: what holds of the cursor and of all seats between any two steps.
use Rattle.std.specs.Prelude.{◌≡◌, ℕ, ◌+◌, ◌≤◌, ◌<◌, Bool, true, false, List, [], ◌∷◌, length, min, if◌then◌else◌}
use mathlib.Core.Option.{some}
use lib.ListN.{get_elem?}
use Rattle.atomic_table.specs.Table.{State}
use Rattle.worker_gate.specs.Numbers.{once_below, times}
use Rattle.worker_gate.specs.declared.view.BatchPlan.{BatchPlan}
use Rattle.worker_gate.specs.declared.view.BatchView.{BatchView}

-- the sum over all views
abbrev pub total : (BatchView → ℕ) → List BatchView → ℕ
total f [] = 0
total f (v ∷ vs) = f v + total f vs

abbrev pub one_if : Bool → ℕ
one_if b = if b then 1 else 0

-- the plan is within its limits
pub record IsBatchPlan (p : BatchPlan) : Type 0 where
  pub count : p.count ≤ 8388608
  pub seats : (0 < p.seats) × (p.seats ≤ 64)

-- what holds of one seat
pub record SeatHolds (p : BatchPlan) (cursor : ℕ) (v : BatchView) : Type 0 where
  pub plan : 0 < length v.numbers → v.plan ≡ p
  -- its late draws, and one more where a draw is pending, are at most the numbers that it holds: so all of them are at most
  -- the seats, and the cursor, which runs at most so far past the count, stays below 2^64
  pub late : v.late + one_if v.pending ≤ length v.numbers
  -- a seat that was joined has no batch
  pub idle : length v.numbers ≡ 0 → v.drawn ≡ []
  pub found : v.found ≤ cursor
  pub ended : v.ended ≡ true → p.count ≤ cursor
  pub fresh : v.fresh ≡ true → (v.drawn ≡ []) × (v.late ≡ 0) × (v.pending ≡ false) × (v.ended ≡ false)

pub record Holds (p : BatchPlan) (s : State ℕ BatchView) : Type 0 where
  pub plan : IsBatchPlan p
  pub cursor : ℕ
  pub words : s.words ≡ cursor ∷ []
  -- the numbers below the cursor and below the count stand in the drawn lists, each once
  pub drawn : (n : ℕ) → total (λ v. times n v.drawn) s.views ≡ once_below (min cursor p.count) n
  -- the cursor exceeds the count by the late draws, and there are none where it is at most the count
  pub past : cursor ≡ min cursor p.count + total (λ v. v.late) s.views
  -- each number below the seats' count is held once
  pub numbers : (n : ℕ) → total (λ v. times n v.numbers) s.views ≡ once_below p.seats n
  pub held : total (λ v. length v.numbers) s.views ≡ p.seats
  pub each : (id : ℕ) (v : BatchView) → get_elem? s.views id ≡ some v → SeatHolds p cursor v
