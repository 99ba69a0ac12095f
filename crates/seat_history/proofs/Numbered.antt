-- Pairs under their keys' numbers.
use Rattle.std.specs.BTreeMap.{BTreeMap, IsOrdered, is_at}
use Rattle.std.specs.Map.{lookup, keys_of}
use Rattle.std.specs.Ordering.{nat_cmp}
use Rattle.std.specs.List.Sorted.{IsStrictlySortedBy}
use Rattle.std.proofs.Common.{◌≡◌, ◌∙◌, ℕ, Some, List, [], ◌∷◌, map, cond, eqb, refl, sym, ap, subst, arith}
use Rattle.std.proofs.lemmas.Bool.{eqb-true}
use Rattle.std.proofs.lemmas.Bool.Decides.{nat_tests}
use Rattle.std.proofs.lemmas.Map.Keys.{IsStrictlyIncreasing-from_sorted}
use Rattle.seat_history.specs.Key.{key_number}
use Rattle.seat_history.specs.Pairs.{Pairs, value_in, ArePairsOf}
use Rattle.seat_history.specs.Plain.{values_of}

-- the pairs, each key as its number
abbrev pub numbered : Pairs → List (ℕ × List ℕ)
numbered pairs = map (λ pair. (key_number pair.0, pair.1)) pairs

at_eqb : (n k : ℕ) → eqb k n ≡ is_at (nat_cmp n) k
at_eqb n k = grind (arith, nat_tests, eqb-true k n)

value_numbered : (pairs : Pairs) (n : ℕ) → value_in pairs n ≡ lookup (is_at (nat_cmp n)) (numbered pairs)
value_numbered [] n = refl
value_numbered (e ∷ es) n = λ i. cond (at_eqb n (key_number e.0) i) (Some e.1) (value_numbered es n i)

keys_numbered : (pairs : Pairs) → keys_of (numbered pairs) ≡ map key_number (keys_of pairs)
keys_numbered [] = refl
keys_numbered (e ∷ es) = ap (λ ks. key_number e.0 ∷ ks) (keys_numbered es)

-- what a map in order has, in its order
pub are_pairs : (pairs : Pairs) (m : BTreeMap ℕ (List ℕ)) → numbered pairs ≡ m.entries → IsOrdered nat_cmp m → ArePairsOf (values_of m) pairs
are_pairs pairs m same ordered = record {
  rising =
      let sorted : IsStrictlySortedBy nat_cmp (map key_number (keys_of pairs)) = subst (IsStrictlySortedBy nat_cmp) (ap keys_of (sym same) ∙ keys_numbered pairs) ordered in
      IsStrictlyIncreasing-from_sorted _ sorted;
  whole = λ n. value_numbered pairs n ∙ ap (lookup (is_at (nat_cmp n))) same;
}
