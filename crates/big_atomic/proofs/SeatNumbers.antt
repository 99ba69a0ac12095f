-- The numbers of an object's seats, from splitting to joining.
use Rattle.std.proofs.Common.{◌≡◌, ℕ, ◌<◌, suc, true, List, [], ◌∷◌, ◌++◌, All, length, map, refl, ap, ◌∙◌, arith, slice_index, slice_index_or}
use Rattle.std.proofs.lemmas.List.Elements.{All-head, All-tail}
use Rattle.big_atomic.specs.Seats.{AreLed, AreSplit, IsUnused, all_numbers}
use Rattle.step_rules.specs.SeatData.{ObjectData, SeatData}
use Rattle.step_rules.specs.Starts.{IsBuilt}
use Rattle.step_rules.specs.Views.{count_up, number}
use Rattle.step_rules.specs.declared.plan.Plan.{Plan}

pub single : (xs : List ℕ) → length xs ≡ 1 → xs ≡ slice_index xs 0 ∷ []
single [] e = absurd (omega arith)
single (x ∷ []) e = refl
single (x ∷ y ∷ later) e = absurd (omega arith)

pub alone : (shared : ObjectData) (seats : List SeatData) → All (IsUnused shared) seats → all_numbers seats ≡ map (λ (s : SeatData). number s.view) seats
alone shared [] all = refl
alone shared (s ∷ later) all =
    let u = All-head (IsUnused shared) s later all in
    λ k. single s.view.numbers u.one k ++ alone shared later (All-tail (IsUnused shared) s later all) k

pub built_numbers : {p : Plan} {shared : ObjectData} {seat : SeatData} → IsBuilt p shared seat → seat.view.numbers ≡ count_up 0 p.seats
built_numbers built = ap (λ (s : SeatData). s.view.numbers) built.seat

-- the seats of a new object have all numbers
pub split_numbers : {p : Plan} {shared : ObjectData} {seat : SeatData} {seats : List SeatData} → IsBuilt p shared seat → AreSplit shared seat seats → all_numbers seats ≡ count_up 0 p.seats
split_numbers {shared = shared} {seats = seats} built split = alone shared seats split.unused ∙ (split.numbers ∙ built_numbers built)

-- the first of them takes in the others, where the seat that was split does
pub split_led : {shared : ObjectData} {seat : SeatData} (seats : List SeatData) → AreSplit shared seat seats → 0 < length seat.view.numbers → seat.first ≡ true → AreLed seats
split_led [] split more first = absurd (omega (arith, split.count, more))
split_led (s ∷ later) split more first = split.first s later refl ∙ first

pub themselves : (seats : List SeatData) → map (λ (s : SeatData). s) seats ≡ seats
themselves [] = refl
themselves (s ∷ later) = λ k. s ∷ themselves later k

-- seats that made calls keep their numbers
pub same_numbers : {A B : Type 0} (f : A → SeatData) (g : B → SeatData) (xs : List A) (ys : List B) → length ys ≡ length xs
    → ((i : ℕ) (d : B) (e : A) → i < length xs → (g (slice_index_or ys i d)).view.numbers ≡ (f (slice_index_or xs i e)).view.numbers)
    → all_numbers (map g ys) ≡ all_numbers (map f xs)
same_numbers f g [] [] e each = refl
same_numbers f g [] (y ∷ rest) e each = absurd (omega arith)
same_numbers f g (x ∷ later) [] e each = absurd (omega arith)
same_numbers f g (x ∷ later) (y ∷ rest) e each =
    λ k. each 0 y x (omega arith) k ++ same_numbers f g later rest (omega (arith, e)) (λ i d q l. each (suc i) d q (omega (arith, l))) k

pub same_led : {A B : Type 0} (f : A → SeatData) (g : B → SeatData) (xs : List A) (ys : List B) → length ys ≡ length xs
    → ((i : ℕ) (d : B) (e : A) → i < length xs → (g (slice_index_or ys i d)).first ≡ (f (slice_index_or xs i e)).first) → AreLed (map f xs) → AreLed (map g ys)
same_led f g [] ys e each led = absurd led
same_led f g (x ∷ later) [] e each led = absurd (omega arith)
same_led f g (x ∷ later) (y ∷ rest) e each led = each 0 y x (omega arith) ∙ led
