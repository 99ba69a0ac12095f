-- Numbers that stand in a list once, or at most once, and the lists that are made of each.
use Rattle.std.proofs.Common.{◌≡◌, ℕ, ◌+◌, ◌<◌, ◌≤◌, eqb, List, [], ◌∷◌, ◌++◌}
use Rattle.std.proofs.Common.{append_assoc, length, length-append, ne_eqb, eq-eqb, refl, sym, ap, subst, arith, ⊎_elim}
use Rattle.std.specs.List.Sorted.{IsPermutation}
use Rattle.std.specs.Prelude.{flat_map}
use Rattle.std.proofs.lemmas.Bool.{cases_eq}
use Rattle.std.proofs.lemmas.List.{append-nil}
use Rattle.std.proofs.lemmas.List.Sorted.{IsPermutation-append, IsPermutation-append_comm, IsPermutation-append_right, IsPermutation-refl, IsPermutation-trans, length_permutation}
use Rattle.worker_gate.proofs.Numbers.{times_all_below}
use Rattle.worker_gate.specs.Numbers.{AtMostOnce, EachOnce, all_below, times}
use Rattle.worker_gate.specs.Rule.{one_if}

abbrev is_own : ℕ → ℕ → ℕ
is_own x n = one_if (eqb x n)

none_left : (xs : List ℕ) → ((n : ℕ) → times n xs ≡ 0) → xs ≡ []
none_left [] none = refl
none_left (x ∷ xs) none = let here : is_own x x ≡ 1 = ap one_if (eq-eqb x x refl) in absurd (omega (arith, none x, here))

module _ {X : Type 0} (f : ℕ → List X) where
  exchanged : (a b rest : List X) → IsPermutation (a ++ (b ++ rest)) (b ++ (a ++ rest))
  exchanged a b rest = subst (λ (z : List X × List X). IsPermutation z.0 z.1) (λ i. (append_assoc a b rest i, append_assoc b a rest i))
      (IsPermutation-append (a ++ b) (b ++ a) rest rest (IsPermutation-append_comm a b) (IsPermutation-refl rest))

  -- one of the numbers before all others
  taken_out : (x : ℕ) (all : List ℕ) → 0 < times x all
      → (rest : List ℕ) × ((n : ℕ) → times n all ≡ times n (x ∷ rest)) × IsPermutation (flat_map f all) (f x ++ flat_map f rest)
  taken_out x [] more = absurd (omega (arith, more))
  taken_out x (y ∷ all) more = ⊎_elim
      (λ e. (all, λ n. ap (λ z. times n (z ∷ all)) e, subst (λ z. IsPermutation (f y ++ flat_map f all) (f z ++ flat_map f all)) e (IsPermutation-refl (f y ++ flat_map f all))))
      (λ ne. let other : is_own y x ≡ 0 = ap one_if (ne_eqb y x ne) in
      let later = taken_out x all (omega (arith, more, other)) in (
        y ∷ later.0,
        λ n. omega (arith, later.1 n),
        IsPermutation-trans (f y ++ flat_map f all) (f y ++ (f x ++ flat_map f later.0)) (f x ++ (f y ++ flat_map f later.0))
            (IsPermutation-append_right (f y) (flat_map f all) (f x ++ flat_map f later.0) later.2) (exchanged (f y) (f x) (flat_map f later.0)),
      ))
      (cases_eq y x)

  -- numbers that stand in a list, and those that are missing
  completed : (xs all : List ℕ) → ((n : ℕ) → times n xs ≤ times n all)
      → (rest : List ℕ) × ((n : ℕ) → times n all ≡ times n xs + times n rest) × IsPermutation (flat_map f all) (flat_map f xs ++ flat_map f rest)
  completed [] all few = (all, λ n. omega arith, IsPermutation-refl (flat_map f all))
  completed (x ∷ xs) all few =
      let own : is_own x x ≡ 1 = ap one_if (eq-eqb x x refl) in
      let first = taken_out x all (omega (arith, few x, own)) in
      let later = completed xs first.0 (λ n. omega (arith, few n, first.1 n)) in (
        later.0,
        λ n. omega (arith, first.1 n, later.1 n),
        subst (IsPermutation (flat_map f all)) (sym (append_assoc (f x) (flat_map f xs) (flat_map f later.0)))
            (IsPermutation-trans (flat_map f all) (f x ++ flat_map f first.0) (f x ++ (flat_map f xs ++ flat_map f later.0)) first.2
            (IsPermutation-append_right (f x) (flat_map f first.0) (flat_map f xs ++ flat_map f later.0) later.2)),
      )

  -- each number below the bound once: so are the lists
  pub each_once : (bound : ℕ) (xs : List ℕ) → EachOnce bound xs → IsPermutation (flat_map f (all_below bound)) (flat_map f xs)
  each_once bound xs once =
      let whole = completed xs (all_below bound) (λ n. omega (arith, once n, times_all_below n bound)) in
      let none : whole.0 ≡ [] = none_left whole.0 (λ n. omega (arith, whole.1 n, once n, times_all_below n bound)) in
      subst (IsPermutation (flat_map f (all_below bound))) (append-nil (flat_map f xs))
      (subst (λ (rest : List ℕ). IsPermutation (flat_map f (all_below bound)) (flat_map f xs ++ flat_map f rest)) none whole.2)

  -- at most once: so they are no longer than all
  pub few_once : (bound : ℕ) (xs : List ℕ) → AtMostOnce bound xs → length (flat_map f xs) ≤ length (flat_map f (all_below bound))
  few_once bound xs once =
      let whole = completed xs (all_below bound) (λ n. omega (arith, once n, times_all_below n bound)) in
      omega (arith, length_permutation _ _ whole.2, length-append (flat_map f xs) (flat_map f whole.0))
