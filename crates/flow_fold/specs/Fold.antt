-- What a fold of pairs has at each key.
use Rattle.std.specs.Prelude.{◌≡◌, ◌↔◌, ℕ, ◌%◌, ◌^◌, ◌≤◌, List, [], map, filter, Option, MatchOption, sum_by, All, Contains}
use Rattle.std.specs.BTreeMap.{is_at}
use Rattle.std.specs.Int.{bit_at}
use Rattle.std.specs.List.{Any}
use Rattle.flow_fold.specs.Key.{key_cmp}
use Rattle.flow_fold.specs.declared.key.Key.{Key}
use Rattle.flow_fold.specs.declared.value.Value.{Value}

-- the values of the pairs that have this key, in order
unfoldable pub values_at : Key → List (Key × Value) → List Value
values_at key pairs = map (λ p. p.1) (filter (λ p. is_at (key_cmp key) p.0) pairs)

-- the least number of a list
pub record IsLeast (n : ℕ) (ns : List ℕ) : Type 0 where
  pub among : Contains ns n
  pub below : All (λ m. n ≤ m) ns

-- the greatest number of a list
pub record IsGreatest (n : ℕ) (ns : List ℕ) : Type 0 where
  pub among : Contains ns n
  pub above : All (λ m. m ≤ n) ns

-- a number that has exactly the bits that some number of a list has
pub record HasBitsOf (n : ℕ) (ns : List ℕ) : Type 0 where
  pub bits : (i : ℕ) → (bit_at n i ≡ 1) ↔ Any (λ m. bit_at m i ≡ 1) ns

-- the sums modulo 2^64, the least first, the greatest last and all flags of values, of which there is one at least
pub record IsTotal (values : List Value) (total : Value) : Type 0 where
  pub packets : total.packets ≡ sum_by (λ v. v.packets) values % 2 ^ 64
  pub octets : total.octets ≡ sum_by (λ v. v.octets) values % 2 ^ 64
  pub first : IsLeast total.first (map (λ v. v.first) values)
  pub last : IsGreatest total.last (map (λ v. v.last) values)
  pub flags : HasBitsOf total.flags (map (λ v. v.flags) values)

-- at each key that occurs in the pairs there is the total of its values, and at no other key anything
abbrev pub IsFold : List (Key × Value) → (Key → Option Value) → Type 0
IsFold pairs at = (key : Key) → MatchOption (at key) (values_at key pairs ≡ []) (IsTotal (values_at key pairs))
