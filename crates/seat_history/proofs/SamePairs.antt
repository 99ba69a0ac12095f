-- Pairs by rising key are one list where their look-ups agree.
use Rattle.std.specs.List.{AllByRecursion}
use Rattle.std.specs.List.Sorted.{IsStrictlySortedBy}
use Rattle.std.specs.Map.{keys_of}
use Rattle.std.specs.Ordering.{nat_cmp}
use Rattle.std.specs.Prelude.{⊤}
use Rattle.std.specs.declared.cmp.Ordering.TheVariants.{Less}
use Rattle.std.proofs.Common.{All, ◌≡◌, ◌∙◌, ℕ, ◌^◌, ◌<◌, cond, eqb, eq-eqb, ne_eqb, Option, Some, None, List, [], ◌∷◌, map, ap, ap₂, refl, sym, arith, inl, inr}
use Rattle.std.proofs.lemmas.Bool.{cases_Bool, cases_lt, eqb-true}
use Rattle.std.proofs.lemmas.Bool.Decides.{nat_tests}
use Rattle.std.proofs.lemmas.List.Elements.{All-head, All-tail}
use Rattle.std.proofs.lemmas.Map.Keys.{sorted_from_strictly_increasing, sorted_head, sorted_tail}
use Rattle.seat_history.specs.Key.{key_number}
use Rattle.seat_history.specs.Pairs.{ArePairsOf, IsPairInRange, Pairs, value_in}
use Rattle.seat_history.specs.declared.key.KeyWords.{KeyWords}

-- each key's number is above n
abbrev pub AreAbove : ℕ → Pairs → Type 0
AreAbove n pairs = AllByRecursion (λ pair. n < key_number pair.0) pairs

abbrev pub Rise : Pairs → Type 0
Rise [] = ⊤
Rise (pair ∷ pairs) = AreAbove (key_number pair.0) pairs × Rise pairs

less : (m n : ℕ) → nat_cmp m n ≡ Less → m < n
less m n h = grind (arith, nat_tests, h)

above_from_sorted : (n : ℕ) (pairs : Pairs) → AllByRecursion (λ m. nat_cmp n m ≡ Less) (map key_number (keys_of pairs)) → AreAbove n pairs
above_from_sorted n [] h = tt
above_from_sorted n (pair ∷ pairs) h = (less n (key_number pair.0) h.0, above_from_sorted n pairs h.1)

rise_from_sorted : (pairs : Pairs) → IsStrictlySortedBy nat_cmp (map key_number (keys_of pairs)) → Rise pairs
rise_from_sorted [] h = tt
rise_from_sorted (pair ∷ pairs) h = (above_from_sorted (key_number pair.0) pairs (sorted_head nat_cmp _ _ h), rise_from_sorted pairs (sorted_tail nat_cmp _ _ h))

pub above_lower : (m n : ℕ) (pairs : Pairs) → m < n → AreAbove n pairs → AreAbove m pairs
above_lower m n [] lower h = tt
above_lower m n (pair ∷ pairs) lower h = let first = h.0 in (omega arith, above_lower m n pairs lower h.1)

-- no key has a number below them all
pub none_below : (n : ℕ) (pairs : Pairs) → AreAbove n pairs → value_in pairs n ≡ None
none_below n [] h = refl
none_below n (pair ∷ pairs) h =
    let first = h.0 in
    ap₂ (λ b v. cond b (Some pair.1) v) (ne_eqb (key_number pair.0) n (λ same. omega arith)) (none_below n pairs h.1)

first_value : (pair : KeyWords × List ℕ) (pairs : Pairs) → value_in (pair ∷ pairs) (key_number pair.0) ≡ Some pair.1
first_value pair pairs = ap (λ b. cond b (Some pair.1) (value_in pairs (key_number pair.0))) (eq-eqb (key_number pair.0) (key_number pair.0) refl)

not_lower : (p q : KeyWords × List ℕ) (ps qs : Pairs) → Rise (q ∷ qs) → ((n : ℕ) → value_in (p ∷ ps) n ≡ value_in (q ∷ qs) n) → key_number p.0 < key_number q.0 → ⊥
not_lower p q ps qs rise same lower =
    let here = first_value p ps in
    let none = none_below (key_number p.0) (q ∷ qs) (lower, above_lower (key_number p.0) (key_number q.0) qs lower rise.0) in
    let there = same (key_number p.0) in
    absurd (cc)

first_number : (p q : KeyWords × List ℕ) (ps qs : Pairs) → Rise (p ∷ ps) → Rise (q ∷ qs) → ((n : ℕ) → value_in (p ∷ ps) n ≡ value_in (q ∷ qs) n) → key_number p.0 ≡ key_number q.0
first_number p q ps qs a b same = elim (cases_lt (key_number p.0) (key_number q.0)) [
  | inl lower ↦ absurd (not_lower p q ps qs b same lower)
  | inr other ↦ elim (cases_lt (key_number q.0) (key_number p.0)) [
    | inl lower ↦ absurd (not_lower q p qs ps a (λ n. sym (same n)) lower)
    | inr equal ↦ omega arith
  ]
]

-- a number is one key's
same_key : (a b : KeyWords) → a.k1 < 2 ^ 64 → b.k1 < 2 ^ 64 → key_number a ≡ key_number b → a ≡ b
same_key a b low high same =
    let first : a.k0 ≡ b.k0 = omega arith in
    let second : a.k1 ≡ b.k1 = omega arith in
    λ i. record { k0 = first i; k1 = second i }

rest_same : (p q : KeyWords × List ℕ) (ps qs : Pairs) → Rise (p ∷ ps) → Rise (q ∷ qs) → ((n : ℕ) → value_in (p ∷ ps) n ≡ value_in (q ∷ qs) n) → key_number p.0 ≡ key_number q.0
    → (n : ℕ) → value_in ps n ≡ value_in qs n
rest_same p q ps qs a b same number n = elim (cases_Bool (eqb (key_number p.0) n)) [
  | inl here ↦
      let is : key_number p.0 ≡ n = eqb-true (key_number p.0) n here in
      ap (value_in ps) (sym is) ∙ none_below (key_number p.0) ps a.0 ∙ sym (none_below (key_number q.0) qs b.0) ∙ ap (value_in qs) (sym number ∙ is)
  | inr later ↦
      sym (ap (λ x. cond x (Some p.1) (value_in ps n)) later) ∙ same n ∙ ap (λ x. cond x (Some q.1) (value_in qs n)) (ap (λ m. eqb m n) (sym number) ∙ later)
]

same_by_rise : (ps qs : Pairs) → Rise ps → Rise qs → All IsPairInRange ps → All IsPairInRange qs → ((n : ℕ) → value_in ps n ≡ value_in qs n) → ps ≡ qs
same_by_rise [] [] a b in_p in_q same = refl
same_by_rise [] (q ∷ qs) a b in_p in_q same = let here = first_value q qs in let there = same (key_number q.0) in absurd (cc)
same_by_rise (p ∷ ps) [] a b in_p in_q same = let here = first_value p ps in let there = same (key_number p.0) in absurd (cc)
same_by_rise (p ∷ ps) (q ∷ qs) a b in_p in_q same =
    let number = first_number p q ps qs a b same in
    let key = same_key p.0 q.0 (All-head IsPairInRange p ps in_p).k1 (All-head IsPairInRange q qs in_q).k1 number in
    let found : Some p.1 ≡ Some q.1 = sym (first_value p ps) ∙ same (key_number p.0) ∙ ap (value_in (q ∷ qs)) number ∙ first_value q qs in
    let value : p.1 ≡ q.1 = cc in
    let rest = same_by_rise ps qs a.1 b.1 (All-tail IsPairInRange p ps in_p) (All-tail IsPairInRange q qs in_q) (rest_same p q ps qs a b same number) in
    λ i. (key i, value i) ∷ rest i

-- values have one list of pairs
pub same_pairs : (values : ℕ → Option (List ℕ)) (ps qs : Pairs) → ArePairsOf values ps → ArePairsOf values qs → All IsPairInRange ps → All IsPairInRange qs → ps ≡ qs
same_pairs values ps qs a b in_p in_q =
    same_by_rise ps qs (rise_from_sorted ps (sorted_from_strictly_increasing _ a.rising)) (rise_from_sorted qs (sorted_from_strictly_increasing _ b.rising)) in_p in_q
    (λ n. a.whole n ∙ sym (b.whole n))
