-- A seat for each number, and the seats back in one.
use Rattle.std.specs.Prelude.{◌≡◌, ℕ, true, false, List, [], ◌∷◌, ◌++◌, All, length, map}
use Rattle.big_atomic.specs.Ready.{IsReady}
use Rattle.step_rules.specs.SeatData.{IsOf, ObjectData, SeatData, holds_record, is_quiet}
use Rattle.step_rules.specs.Views.{number}
use Rattle.step_rules.specs.declared.view.Stand.{Stand}

-- a seat of one number that was in no call yet, with all the changes that the plan allows to a number
pub record IsUnused (shared : ObjectData) (seat : SeatData) : Type 0 where
  pub ready : IsReady shared seat
  pub one : length seat.view.numbers ≡ 1
  pub stands : seat.view.stands ≡ []
  pub none_held : holds_record seat.view ≡ false
  pub changes : seat.view.changes ≡ shared.plan.changes

-- a fresh seat was split into these: one for each of its numbers, in their order, and the first of them is its own
pub record AreSplit (shared : ObjectData) (seat : SeatData) (seats : List SeatData) : Type 0 where
  pub count : length seats ≡ length seat.view.numbers
  pub numbers : map (λ (s : SeatData). number s.view) seats ≡ seat.view.numbers
  pub unused : All (IsUnused shared) seats
  pub first : (s : SeatData) (r : List SeatData) → seats ≡ s ∷ r → s.first ≡ seat.first

-- a quiet seat of the object
pub record IsQuietOf (shared : ObjectData) (seat : SeatData) : Type 0 where
  pub ours : IsOf shared seat
  pub quiet : is_quiet seat ≡ true

-- the first of these seats is the one that takes in others
abbrev pub AreLed : List SeatData → Type 0
AreLed [] = ⊥
AreLed (seat ∷ later) = seat.first ≡ true

-- a seat keeps its numbers, and whether it takes in others
pub record Stays (before after : SeatData) : Type 0 where
  pub numbers : after.view.numbers ≡ before.view.numbers
  pub first : after.first ≡ before.first

-- the numbers of all seats, one seat's after the other's
abbrev pub all_numbers : List SeatData → List ℕ
all_numbers [] = []
all_numbers (s ∷ r) = s.view.numbers ++ all_numbers r

-- these seats were given away, and came back with their numbers; the first of them takes in others where it did
pub record AreBack (given back : List SeatData) : Type 0 where
  pub numbers : all_numbers back ≡ all_numbers given
  pub led : AreLed given → AreLed back

-- the stands of all seats, one seat's after the other's
abbrev pub all_stands : List SeatData → List Stand
all_stands [] = []
all_stands (s ∷ r) = s.view.stands ++ all_stands r

-- the first seat took in all others, and is quiet again
pub record IsJoinedAll (shared : ObjectData) (old : SeatData) (rest : List SeatData) (new : SeatData) : Type 0 where
  pub numbers : new.view.numbers ≡ old.view.numbers ++ all_numbers rest
  pub stands : new.view.stands ≡ old.view.stands ++ all_stands rest
  pub first : new.first ≡ true
  pub quiet : IsQuietOf shared new
  pub ready : IsReady shared new
