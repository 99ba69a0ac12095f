-- Values by rising key.
use Rattle.std.specs.Cmp.{IsTotalOrder}
use Rattle.std.specs.List.{slice_get, AllByRecursion}
use Rattle.std.specs.Ordering.{is_lt, is_some_and, ordering_then, partial_ordering_then}
use Rattle.std.specs.declared.cmp.Ordering.{Ordering}
use Rattle.std.specs.declared.cmp.Ordering.TheVariants.{Less, Equal, Greater}
use Rattle.std.specs.List.Sorted.{IsStrictlySortedBy}
use Rattle.std.proofs.Common.{◌≡◌, ℕ, ◌+◌, ◌-◌, ◌<◌, List, [], ◌∷◌, ◌++◌, Some, None, true, length, map, get_or, arith, inl, inr, sym, ap, ap₂, subst, ◌∙◌, refl}
use Rattle.std.proofs.lemmas.Bool.{cases_lt}
use Rattle.std.proofs.lemmas.Cmp.{nat_cmp_total, on_total, then_total}
use Rattle.std.proofs.lemmas.List.{get_or_append_left, get_or_push, get_or-map, length_push, length-map, map_push, map-append}
use Rattle.std.proofs.lemmas.Map.Keys.{Less-from_sorted, sorted_from_all_adjacent}
use Rattle.std.proofs.lemmas.Option.{get_or_from_slice_get, slice_get_within, slice_get-get_or}
use Rattle.flow_fold.specs.Key.{key_cmp}
use Rattle.flow_fold.specs.declared.key.Key.{Key}
use Rattle.flow_fold.specs.declared.value.Value.{Value}

pub key_cmp_total : IsTotalOrder key_cmp
key_cmp_total = then_total (on_total (λ (k : Key). k.k0) nat_cmp_total) (on_total (λ (k : Key). k.k1) nat_cmp_total)

-- a flow's key
abbrev pub flow_key : Key × Value → Key
flow_key flow = flow.0

rising_one : {K : Type 0} (cmp : K → K → Ordering) (k : K) → IsStrictlySortedBy cmp (k ∷ [])
unfolding IsStrictlySortedBy
rising_one cmp k = (tt, tt)

pub rising_none : {K : Type 0} (cmp : K → K → Ordering) → IsStrictlySortedBy cmp []
unfolding IsStrictlySortedBy
rising_none cmp = tt

all_front : {K : Type 0} (P : K → Type 0) (xs ys : List K) → AllByRecursion P (xs ++ ys) → AllByRecursion P xs
all_front P [] ys h = tt
all_front P (x ∷ xs) ys h = (h.0, all_front P xs ys h.1)

keys_front : {K : Type 0} (cmp : K → K → Ordering) (xs ys : List K) → IsStrictlySortedBy cmp (xs ++ ys) → IsStrictlySortedBy cmp xs
unfolding IsStrictlySortedBy
keys_front cmp [] ys h = tt
keys_front cmp (x ∷ xs) ys h = (all_front (λ y. cmp x y ≡ Less) xs ys h.0, keys_front cmp xs ys h.1)

module _ {X K : Type 0} (key : X → K) (cmp : K → K → Ordering) (total : IsTotalOrder cmp) where
  -- the key of the last value
  last_key : (xs : List X) (last : X) (i : ℕ) → i + 1 ≡ length xs → slice_get xs (length xs - 1) ≡ Some last → get_or (map key xs) i (key last) ≡ key last
  last_key xs last i end is =
      let at : i ≡ length xs - 1 = omega arith in
      let here : slice_get xs i ≡ Some last = ap (slice_get xs) at ∙ is in
      get_or-map key xs i last (key last) (omega arith) ∙ ap key (get_or_from_slice_get xs i last last here)

  -- one more key, which is above the last
  push_key : (keys : List K) (last k : K) → IsStrictlySortedBy cmp keys
      → ((i : ℕ) → i + 1 ≡ length keys → cmp (get_or keys i last) k ≡ Less) → IsStrictlySortedBy cmp (keys ++ k ∷ [])
  push_key keys last k rising below =
      sorted_from_all_adjacent total (keys ++ k ∷ []) last (λ i within.
      let inside : i + 1 < length keys + 1 = omega (arith, length_push keys k) in
      let this = get_or_append_left keys (k ∷ []) last i (omega arith) in
      elim (cases_lt (i + 1) (length keys)) [
        | inl lt ↦ ap₂ cmp this (get_or_append_left keys (k ∷ []) last (i + 1) lt) ∙ Less-from_sorted cmp keys i (i + 1) last rising (omega arith) lt
        | inr ge ↦ ap₂ cmp this (get_or_push keys k last (i + 1) (omega arith)) ∙ below i (omega arith)
      ])

  -- one more value, whose key is above the last
  pub rising_push : (xs : List X) (last x : X) → IsStrictlySortedBy cmp (map key xs) → slice_get xs (length xs - 1) ≡ Some last → cmp (key last) (key x) ≡ Less
      → IsStrictlySortedBy cmp (map key (xs ++ x ∷ []))
  rising_push xs last x rising is below =
      let pushed = push_key (map key xs) (key last) (key x) rising (λ i end.
      let length_is : length (map key xs) ≡ length xs = length-map xs key in
      ap (λ (k : K). cmp k (key x)) (last_key xs last i (omega arith) is) ∙ below) in
      subst (IsStrictlySortedBy cmp) (sym (map_push key xs x)) pushed

  -- where keys rise, each is above the one before
  pub above_last : (xs : List X) (last x : X) → IsStrictlySortedBy cmp (map key (xs ++ x ∷ [])) → slice_get xs (length xs - 1) ≡ Some last → cmp (key last) (key x) ≡ Less
  above_last xs last x rising is =
      let keys = map key xs in
      let within = slice_get_within xs (length xs - 1) last is in
      let i = length xs - 1 in
      let end : i + 1 ≡ length xs = omega arith in
      let length_is : length keys ≡ length xs = length-map xs key in
      let pushed = subst (IsStrictlySortedBy cmp) (map_push key xs x) rising in
      let less = Less-from_sorted cmp (keys ++ key x ∷ []) i (i + 1) (key last) pushed (omega arith) (omega (arith, length_push keys (key x))) in
      sym (ap₂ cmp (get_or_append_left keys (key x ∷ []) (key last) i (omega arith) ∙ last_key xs last i end is) (get_or_push keys (key x) (key last) (i + 1) (omega arith))) ∙ less

  -- the first value of all
  pub rising_first : (xs : List X) (x : X) → None ≡ slice_get xs (length xs - 1) → IsStrictlySortedBy cmp (map key (xs ++ x ∷ []))
  rising_first [] x none = rising_one cmp (key x)
  rising_first (y ∷ ys) x none = let some = slice_get-get_or (y ∷ ys) (length (y ∷ ys) - 1) y (omega arith) in absurd (cc (some, none))

  -- the first of some values by rising key
  pub rising_front : (xs ys : List X) → IsStrictlySortedBy cmp (map key (xs ++ ys)) → IsStrictlySortedBy cmp (map key xs)
  rising_front xs ys rising = keys_front cmp (map key xs) (map key ys) (subst (IsStrictlySortedBy cmp) (map-append key xs ys) rising)

pub less_from_is_lt : (o : Ordering) → is_lt o ≡ true → o ≡ Less
less_from_is_lt Less h = refl
less_from_is_lt Equal h = absurd (cc)
less_from_is_lt Greater h = absurd (cc)

-- `<` of two words, one after the other
pub partial_lt_both : (first second : Ordering) → is_some_and is_lt (partial_ordering_then (Some first) (Some second)) ≡ is_lt (ordering_then first second)
partial_lt_both Less second = refl
partial_lt_both Equal second = refl
partial_lt_both Greater second = refl
