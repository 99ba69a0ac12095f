-- The first pair of each key, among pairs by rising key.
use Rattle.std.specs.List.{AllByRecursion}
use Rattle.std.specs.List.Sorted.{IsNonDecreasingBy, IsStableByKey}
use Rattle.std.specs.Ordering.{is_lt, nat_cmp}
use Rattle.std.specs.Prelude.{⊤}
use Rattle.std.proofs.Common.{◌≡◌, ◌∙◌, ℕ, ◌<◌, ◌≤◌, Bool, true, false, not, ◌&&◌, cond, eqb, Option, Some, None, List, [], ◌∷◌, suc, ap, refl, sym, subst, arith, inl, inr}
use Rattle.std.proofs.lemmas.Bool.{cases_Bool, cond-false, eqb-true}
use Rattle.std.proofs.lemmas.Bool.Decides.{nat_tests}
use Rattle.std.proofs.lemmas.List.Elements.{recursion_from_All}
use Rattle.std.proofs.lemmas.Map.Entries.{lookup-filter-keys}
use Rattle.std.proofs.lemmas.Map.Keys.{IsStrictlyIncreasing-from_sorted}
use Rattle.seat_history.specs.Key.{key_number}
use Rattle.seat_history.specs.Pairs.{ArePairsOf, Pairs, differs, value_in}
use Rattle.seat_history.specs.declared.key.KeyWords.{KeyWords}
use Rattle.seat_history.proofs.SamePairs.{AreAbove, Rise, above_lower}
use Rattle.seat_history.proofs.SetPairs.{sorted_from_rise}

-- the pairs whose number differs from the one before, after a last number
abbrev pub firsts : Option ℕ → Pairs → Pairs
firsts last [] = []
firsts last (pair ∷ pairs) = cond (differs last (key_number pair.0)) (pair ∷ firsts (Some (key_number pair.0)) pairs) (firsts last pairs)

-- each number is n or above
abbrev AreFrom : ℕ → Pairs → Type 0
AreFrom n pairs = AllByRecursion (λ pair. n ≤ key_number pair.0) pairs

abbrev Climb : Pairs → Type 0
Climb [] = ⊤
Climb (pair ∷ pairs) = AreFrom (key_number pair.0) pairs × Climb pairs

climb_from_sorted : (pairs : Pairs) → IsNonDecreasingBy (λ pair. key_number pair.0) pairs → Climb pairs
climb_from_sorted [] h = tt
climb_from_sorted (pair ∷ pairs) h = (
  recursion_from_All (λ p. key_number pair.0 ≤ key_number p.0) pairs (λ k d lt. h 0 (suc k) d (omega arith) (omega arith)),
  climb_from_sorted pairs (λ i j d le lt. h (suc i) (suc j) d (omega arith) (omega arith)),
)

-- what comes behind the number m
record Behind (m : ℕ) (pairs rest : Pairs) : Type 0 where
  above : AreAbove m rest
  rise : Rise rest
  whole : (n : ℕ) → eqb m n ≡ false → value_in rest n ≡ value_in pairs n

kept_value : (b c : Bool) (x y z : Option (List ℕ)) → (b ≡ false → y ≡ z) → cond b x y ≡ cond b x z
kept_value true c x y z h = refl
kept_value false c x y z h = h refl

first_kept : (m : ℕ) (pair : KeyWords × List ℕ) (pairs rest : Pairs) → m < key_number pair.0 → Behind (key_number pair.0) pairs rest → Behind m (pair ∷ pairs) (pair ∷ rest)
first_kept m pair pairs rest lower is = record {
  above = (lower, above_lower m (key_number pair.0) rest lower is.above);
  rise = (is.above, is.rise);
  whole = λ n other. kept_value (eqb (key_number pair.0) n) true (Some pair.1) (value_in rest n) (value_in pairs n) (is.whole n);
}

first_passed : (m : ℕ) (pair : KeyWords × List ℕ) (pairs rest : Pairs) → m ≡ key_number pair.0 → Behind m pairs rest → Behind m (pair ∷ pairs) rest
first_passed m pair pairs rest same is = record {
  above = is.above;
  rise = is.rise;
  whole = λ n other. is.whole n other ∙ sym (cond-false (eqb (key_number pair.0) n) (Some pair.1) (value_in pairs n) (ap (λ k. eqb k n) (sym same) ∙ other));
}

behind : (m : ℕ) (pairs : Pairs) → AreFrom m pairs → Climb pairs → Behind m pairs (firsts (Some m) pairs)
behind m [] from climb = record { above = tt; rise = tt; whole = λ n other. refl }
behind m (pair ∷ pairs) from climb = elim (cases_Bool (eqb m (key_number pair.0))) [
  | inl same ↦
      let is : m ≡ key_number pair.0 = eqb-true m (key_number pair.0) same in
      subst (Behind m (pair ∷ pairs)) (sym (ap (λ b. cond (not b) (pair ∷ firsts (Some (key_number pair.0)) pairs) (firsts (Some m) pairs)) same))
      (first_passed m pair pairs (firsts (Some m) pairs) is (behind m pairs from.1 climb.1))
  | inr other ↦
      let le = from.0 in
      let lower : m < key_number pair.0 = grind (arith, nat_tests, le, other) in
      subst (Behind m (pair ∷ pairs)) (sym (ap (λ b. cond (not b) (pair ∷ firsts (Some (key_number pair.0)) pairs) (firsts (Some m) pairs)) other))
      (first_kept m pair pairs (firsts (Some (key_number pair.0)) pairs) lower (behind (key_number pair.0) pairs climb.0 climb.1))
]

-- all pairs, with no number before
record AreFirsts (pairs rest : Pairs) : Type 0 where
  rise : Rise rest
  whole : (n : ℕ) → value_in rest n ≡ value_in pairs n

are_firsts : (pairs : Pairs) → Climb pairs → AreFirsts pairs (firsts None pairs)
are_firsts [] climb = record { rise = tt; whole = λ n. refl }
are_firsts (pair ∷ pairs) climb =
    let is = behind (key_number pair.0) pairs climb.0 climb.1 in record {
      rise = (is.above, is.rise);
      whole = λ n. kept_value (eqb (key_number pair.0) n) true (Some pair.1) (value_in (firsts (Some (key_number pair.0)) pairs) n) (value_in pairs n) (is.whole n);
    }

-- among pairs by rising key they are the pairs of the first values
pub firsts_are_pairs : (pairs : Pairs) → IsNonDecreasingBy (λ pair. key_number pair.0) pairs → ArePairsOf (value_in pairs) (firsts None pairs)
firsts_are_pairs pairs sorted =
    let are = are_firsts pairs (climb_from_sorted pairs sorted) in
    record { rising = IsStrictlyIncreasing-from_sorted _ (sorted_from_rise (firsts None pairs) are.rise); whole = are.whole }

-- a number ties with itself
ties_itself : (m : ℕ) → (not (is_lt (nat_cmp m m)) && not (is_lt (nat_cmp m m))) ≡ true
ties_itself m = grind (arith, nat_tests)

-- a sort that leaves the pairs of a key in their order leaves each key its first value
pub stable_values : (old new : Pairs) → IsStableByKey (λ pair. key_number pair.0) nat_cmp old new → (n : ℕ) → value_in new n ≡ value_in old n
stable_values old new stable n =
    let key : KeyWords = record { k0 = 0; k1 = n } in
    let number : key_number key ≡ n = omega arith in
    let test = λ (k : KeyWords). not (is_lt (nat_cmp (key_number key) (key_number k))) && not (is_lt (nat_cmp (key_number k) (key_number key))) in
    let passes : (k : KeyWords) → eqb (key_number k) n ≡ true → test k ≡ true =
    λ k here. subst (λ m. (not (is_lt (nat_cmp (key_number key) m)) && not (is_lt (nat_cmp m (key_number key)))) ≡ true)
    (number ∙ sym (eqb-true (key_number k) n here)) (ties_itself (key_number key)) in
    sym (lookup-filter-keys (λ k. eqb (key_number k) n) test true passes new)
    ∙ (ap (λ pairs. value_in pairs n) (stable (key, [])) ∙ lookup-filter-keys (λ k. eqb (key_number k) n) test true passes old)
