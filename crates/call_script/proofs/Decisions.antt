-- Decisions put together, and of lists.
use Rattle.std.specs.List.{AllByRecursion}
use Rattle.std.proofs.Common.{◌≡◌, ◌∙◌, ◌⊎◌, ℕ, List, [], ◌∷◌, sym, inl, inr, ⊎_elim}
use Rattle.std.proofs.lemmas.Bool.{cases_Bool, cases_eq, false≢true}
use Rattle.seat_history.proofs.Changed.{same_from_words, words_from_same}
use Rattle.seat_history.specs.Step.{is_same}

pub both_dec : {A B : Type 0} → Dec A → Dec B → Dec (A × B)
both_dec (yes a) (yes b) = yes (a, b)
both_dec (yes a) (no none) = no (λ p. none p.1)
both_dec (no none) other = no (λ p. none p.0)

either_dec : {A B : Type 0} → Dec A → Dec B → Dec (A ⊎ B)
either_dec (yes a) other = yes (inl a)
either_dec (no none) (yes b) = yes (inr b)
either_dec (no none) (no also) = no (λ h. ⊎_elim none also h)

-- P holds of an item
abbrev pub SomeOf : {X : Type 0} → (X → Type 0) → List X → Type 0
SomeOf P [] = ⊥
SomeOf P (x ∷ xs) = P x ⊎ SomeOf P xs

module _ {X : Type 0} (P : X → Type 0) where
  pub some_of : (xs : List X) → SomeOf P xs → (x : X) × P x
  some_of [] h = absurd h
  some_of (x ∷ xs) (inl h) = (x, h)
  some_of (x ∷ xs) (inr h) = some_of xs h

  module _ (each : (x : X) → Dec (P x)) where
    pub all_dec : (xs : List X) → Dec (AllByRecursion P xs)
    all_dec [] = yes tt
    all_dec (x ∷ xs) = both_dec (each x) (all_dec xs)

    pub some_dec : (xs : List X) → Dec (SomeOf P xs)
    some_dec [] = no (λ h. h)
    some_dec (x ∷ xs) = either_dec (each x) (some_dec xs)

pub same_dec : (a b : List ℕ) → Dec (a ≡ b)
same_dec a b = elim (cases_Bool (is_same a b)) [
  | inl same ↦ yes (words_from_same a b same)
  | inr other ↦ no (λ e. false≢true (sym other ∙ same_from_words a b e))
]

pub count_dec : (m n : ℕ) → Dec (m ≡ n)
count_dec m n = elim (cases_eq m n) [
  | inl same ↦ yes same
  | inr other ↦ no other
]
