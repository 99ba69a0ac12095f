-- The total of values: of one, of one more, in any order, and that there is one only.
use Rattle.std.proofs.Common.{◌≡◌, ◌∙◌, ℕ, ◌+◌, ◌%◌, ◌^◌, ◌<◌, ◌≤◌, List, [], ◌∷◌, ◌++◌, min, max, ap, sym, subst, ⊎_elim, mod-eq_of_lt, arith}
use Rattle.std.specs.Int.Bits.{bit_or}
use Rattle.std.specs.List.{sum_by}
use Rattle.std.specs.List.Sorted.{IsPermutation}
use Rattle.std.proofs.lemmas.Bool.{cases_lt}
use Rattle.std.proofs.lemmas.List.{map_push}
use Rattle.std.proofs.lemmas.List.Elements.{All-push, All-nil, All-weaker, All-contains, Contains-append_left, Contains-push}
use Rattle.std.proofs.lemmas.List.Sorted.{IsPermutation-map, All-permutation, Contains-permutation, sum_by-IsPermutation}
use Rattle.std.proofs.lemmas.List.Sums.{sum_by_push}
use Rattle.flow_fold.specs.Fold.{HasBitsOf, IsLeast, IsGreatest, IsTotal}
use Rattle.flow_fold.specs.Merge.{merge_of}
use Rattle.flow_fold.specs.declared.value.Value.{Value}
use Rattle.flow_fold.proofs.Bits.{bits_alone, bits_permutation, bits_push, bits_unique}

least_push : (ns : List ℕ) (n m : ℕ) → IsLeast n ns → IsLeast (min n m) (ns ++ m ∷ [])
least_push ns n m h = ⊎_elim
    (λ (lt : n < m). let e : n ≡ min n m = omega arith in subst (λ k. IsLeast k (ns ++ m ∷ [])) e (record {
      among = Contains-append_left ns (m ∷ []) n h.among;
      below = All-push (λ k. n ≤ k) ns m h.below (omega arith);
    }))
    (λ (le : m ≤ n). let e : m ≡ min n m = omega arith in subst (λ k. IsLeast k (ns ++ m ∷ [])) e (record {
      among = Contains-push ns m;
      below = All-push (λ k. m ≤ k) ns m (All-weaker (λ k. n ≤ k) (λ k. m ≤ k) (λ k (b : n ≤ k). omega arith) ns h.below) (omega arith);
    }))
    (cases_lt n m)

greatest_push : (ns : List ℕ) (n m : ℕ) → IsGreatest n ns → IsGreatest (max n m) (ns ++ m ∷ [])
greatest_push ns n m h = ⊎_elim
    (λ (lt : n < m). let e : m ≡ max n m = omega arith in subst (λ k. IsGreatest k (ns ++ m ∷ [])) e (record {
      among = Contains-push ns m;
      above = All-push (λ k. k ≤ m) ns m (All-weaker (λ k. k ≤ n) (λ k. k ≤ m) (λ k (b : k ≤ n). omega arith) ns h.above) (omega arith);
    }))
    (λ (le : m ≤ n). let e : n ≡ max n m = omega arith in subst (λ k. IsGreatest k (ns ++ m ∷ [])) e (record {
      among = Contains-append_left ns (m ∷ []) n h.among;
      above = All-push (λ k. k ≤ n) ns m h.above (omega arith);
    }))
    (cases_lt n m)

sum_push : (f : Value → ℕ) (vs : List Value) (v : Value) (t : ℕ) → t ≡ sum_by f vs % 2 ^ 64 → (t + f v) % 2 ^ 64 ≡ sum_by f (vs ++ v ∷ []) % 2 ^ 64
sum_push f vs v t h = let e = sum_by_push f vs v in omega arith

-- one value has a total
pub total_alone : (v : Value) → IsTotal (v ∷ []) (record v { packets = v.packets % 2 ^ 64; octets = v.octets % 2 ^ 64 })
total_alone v = record {
  packets = alone v.packets;
  octets = alone v.octets;
  first = record { among = Contains-push [] v.first; below = All-push (λ k. v.first ≤ k) [] v.first (All-nil _) (omega arith) };
  last = record { among = Contains-push [] v.last; above = All-push (λ k. k ≤ v.last) [] v.last (All-nil _) (omega arith) };
  flags = bits_alone v.flags;
}
  where
    alone : (n : ℕ) → n % 2 ^ 64 ≡ (0 + n) % 2 ^ 64
    alone n = omega arith

-- it is the value itself, where its numbers are below 2^64
pub total_one : (v : Value) → v.packets < 2 ^ 64 → v.octets < 2 ^ 64 → IsTotal (v ∷ []) v
total_one v p o =
    let packets : v.packets % 2 ^ 64 ≡ v.packets = mod-eq_of_lt p in
    let octets : v.octets % 2 ^ 64 ≡ v.octets = mod-eq_of_lt o in
    subst (IsTotal (v ∷ [])) (λ i. record v { packets = packets i; octets = octets i }) (total_alone v)

-- one value more is merged into the total
pub total_push : (vs : List Value) (t v : Value) → IsTotal vs t → IsTotal (vs ++ v ∷ []) (merge_of t v)
total_push vs t v h = record {
  packets = sum_push (λ x. x.packets) vs v t.packets h.packets;
  octets = sum_push (λ x. x.octets) vs v t.octets h.octets;
  first = subst (IsLeast (min t.first v.first)) (sym (map_push (λ (x : Value). x.first) vs v)) (least_push _ _ _ h.first);
  last = subst (IsGreatest (max t.last v.last)) (sym (map_push (λ (x : Value). x.last) vs v)) (greatest_push _ _ _ h.last);
  flags = subst (HasBitsOf (bit_or t.flags v.flags)) (sym (map_push (λ (x : Value). x.flags) vs v)) (bits_push _ _ _ h.flags);
}

-- the same values in another order have the same total
pub total_permutation : (vs ws : List Value) (t : Value) → IsPermutation vs ws → IsTotal vs t → IsTotal ws t
total_permutation vs ws t p h = record {
  packets = let e = sum_by-IsPermutation (λ (x : Value). x.packets) vs ws p in h.packets ∙ ap (λ n. n % 2 ^ 64) (sym e);
  octets = let e = sum_by-IsPermutation (λ (x : Value). x.octets) vs ws p in h.octets ∙ ap (λ n. n % 2 ^ 64) (sym e);
  first = let q = IsPermutation-map (λ (x : Value). x.first) vs ws p in record {
    among = Contains-permutation _ _ _ q h.first.among;
    below = All-permutation (λ k. t.first ≤ k) _ _ q h.first.below;
  };
  last = let q = IsPermutation-map (λ (x : Value). x.last) vs ws p in record {
    among = Contains-permutation _ _ _ q h.last.among;
    above = All-permutation (λ k. k ≤ t.last) _ _ q h.last.above;
  };
  flags = bits_permutation _ _ _ (IsPermutation-map (λ (x : Value). x.flags) vs ws p) h.flags;
}

-- values have one total at most
pub total_unique : (vs : List Value) (s t : Value) → IsTotal vs s → IsTotal vs t → s ≡ t
total_unique vs s t a b =
    let packets : s.packets ≡ t.packets = a.packets ∙ sym b.packets in
    let octets : s.octets ≡ t.octets = a.octets ∙ sym b.octets in
    let st = All-contains (λ k. s.first ≤ k) _ _ a.first.below b.first.among in
    let ts = All-contains (λ k. t.first ≤ k) _ _ b.first.below a.first.among in
    let lst = All-contains (λ k. k ≤ s.last) _ _ a.last.above b.last.among in
    let lts = All-contains (λ k. k ≤ t.last) _ _ b.last.above a.last.among in
    let first : s.first ≡ t.first = omega arith in
    let last : s.last ≡ t.last = omega arith in
    let flags : s.flags ≡ t.flags = bits_unique _ _ _ a.flags b.flags in
    λ i. record { packets = packets i; octets = octets i; first = first i; last = last i; flags = flags i }
