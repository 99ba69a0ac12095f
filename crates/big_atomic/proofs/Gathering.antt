-- Seats of a list of items, taken into the first item's one by one.
use Rattle.std.proofs.Common.{◌≡◌, true, List, [], ◌∷◌, ◌++◌, All, map, sym, ap, subst, ◌∙◌, append-nil}
use Rattle.std.proofs.lemmas.List.Elements.{All-head, All-tail}
use Rattle.big_atomic.proofs.Sharing.{joined_more}
use Rattle.big_atomic.specs.Seats.{AreLed, all_numbers}
use Rattle.step_rules.specs.SeatData.{SeatData}

-- the first item's seat took in those of all items but the ones that are left, and P holds of it as of them
pub record GatheredSoFar {X : Type 0} (seat_of : X → SeatData) (P : X → Type 0) (one : X) (left all : List X) : Type 0 where
  pub holds : P one
  pub first : (seat_of one).first ≡ true
  pub left_hold : All P left
  pub numbers : (seat_of one).view.numbers ++ all_numbers (map seat_of left) ≡ all_numbers (map seat_of all)

pub gather_begins : {X : Type 0} (seat_of : X → SeatData) (P : X → Type 0) (first : X) (left all : List X) → all ≡ first ∷ left → All P all → AreLed (map seat_of all)
    → GatheredSoFar seat_of P first left all
gather_begins {X} seat_of P first left all is holds led =
    let each : All P (first ∷ left) = subst (All P) is holds in record {
      holds = All-head P first left each;
      first = subst (λ (l : List X). AreLed (map seat_of l)) is led;
      left_hold = All-tail P first left each;
      numbers = ap (λ (l : List X). all_numbers (map seat_of l)) (sym is);
    }

module _ {X : Type 0} {seat_of : X → SeatData} {P : X → Type 0} {first : X} {left all : List X} (so_far : GatheredSoFar seat_of P first left all)
    (next : X) (rest : List X) (is : left ≡ next ∷ rest) where
  pub next_holds : P next
  next_holds = All-head P next rest (subst (All P) is so_far.left_hold)

  pub gather_more : (new : X) → P new → (seat_of new).first ≡ true → (seat_of new).view.numbers ≡ (seat_of first).view.numbers ++ (seat_of next).view.numbers
      → GatheredSoFar seat_of P new rest all
  gather_more new holds leads numbers = record {
    holds = holds;
    first = leads;
    left_hold = All-tail P next rest (subst (All P) is so_far.left_hold);
    numbers = joined_more (seat_of first).view.numbers (seat_of new).view.numbers (seat_of next).view.numbers (all_numbers (map seat_of rest)) (all_numbers (map seat_of all))
        (all_numbers (map seat_of left)) numbers (ap (λ (l : List X). all_numbers (map seat_of l)) is) so_far.numbers;
  }

-- at the end the seat has all numbers
pub gather_ends : {X : Type 0} {seat_of : X → SeatData} {P : X → Type 0} {first : X} {left all : List X} → GatheredSoFar seat_of P first left all → left ≡ []
    → (seat_of first).view.numbers ≡ all_numbers (map seat_of all)
gather_ends {X} {seat_of} {first = first} so_far none =
    sym (ap (λ (l : List X). (seat_of first).view.numbers ++ all_numbers (map seat_of l)) none ∙ append-nil (seat_of first).view.numbers) ∙ so_far.numbers
