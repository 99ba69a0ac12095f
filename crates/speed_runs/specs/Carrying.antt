-- What a thread carries from one call to the next.
use Rattle.std.specs.Prelude.{◌≡◌, ℕ, Bool, List, [], ◌∷◌, length}
use Rattle.speed_runs.specs.Runs.{HasCome}
use Rattle.step_rules.specs.SeatData.{ObjectData, SeatData}
use Rattle.step_rules.specs.declared.view.Stand.{Stand}

-- what is carried after these stands, where a stand makes one thing of another
abbrev pub carried : {X : Type 0} → (X → Stand → X) → X → List Stand → X
carried after x [] = x
carried after x (s ∷ later) = carried after (after x s) later

-- the stand of a call that is made with this carried, and what is carried after it
abbrev pub Leaves : {X : Type 0} → (X → Stand → X) → (X → Stand → Type 0) → X → X → Stand → Type 0
Leaves after IsTurn x y s = IsTurn x s × (y ≡ after x s)

-- the stand comes next of a thread, after these, where this is carried at first
abbrev pub IsNextWith : {X : Type 0} → (X → Stand → X) → X → (ℕ → ℕ → X → Stand → Type 0) → ℕ → List Stand → Stand → Type 0
IsNextWith after first IsTurn thread before s = IsTurn thread (length before) (carried after first before) s

-- after i calls of a thread, and this is carried
pub record HasCarried {X : Type 0} (after : X → Stand → X) (first : X) (IsTurn : ℕ → ℕ → X → Stand → Type 0) (is_made : Stand → Bool) (shared : ObjectData) (i : ℕ)
    (seat : SeatData) (x : X) (done : ℕ) : Type 0 where
  pub come : HasCome (IsNextWith after first IsTurn) is_made shared i seat done
  pub carried_is : x ≡ carried after first seat.view.stands
