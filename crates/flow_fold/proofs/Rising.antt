-- Lists by rising key are one where their look-ups agree.
use Rattle.std.proofs.Common.{◌≡◌, ◌∙◌, true, false, None, Some, [], ◌∷◌, Ordering, ap, refl, sym, ⊎_elim}
use Rattle.std.specs.declared.cmp.Ordering.TheVariants.{Less, Equal, Greater}
use Rattle.std.specs.BTreeMap.{is_at}
use Rattle.std.specs.Cmp.{eq_by_cmp_equiv}
use Rattle.std.specs.Ordering.{ordering_reverse}
use Rattle.std.proofs.lemmas.Bool.{cases_Bool}
use Rattle.std.proofs.lemmas.Map.{lookup-none}
use Rattle.std.proofs.lemmas.Map.Entries.{lookup_head, lookup_tail, none_below_head, none_past_head}
use Rattle.std.proofs.lemmas.Map.Keys.{IsDistinct-from_sorted, sorted_tail}
use Rattle.flow_fold.specs.Flows.{Flows, HasRisingKeys, value_in}
use Rattle.flow_fold.specs.Key.{key_cmp}
use Rattle.flow_fold.specs.declared.key.Key.{Key}
use Rattle.flow_fold.specs.declared.value.Value.{Value}
use Rattle.flow_fold.proofs.SameKey.{exact_keys, key_cmp_total, same_key}

first_value : (x : Key × Value) (xs : Flows) → value_in (x ∷ xs) x.0 ≡ Some x.1
first_value x xs = lookup_head (is_at (key_cmp x.0)) x xs ((same_key x.0 x.0).1 refl)

none_below : (key : Key) (x : Key × Value) (xs : Flows) → HasRisingKeys (x ∷ xs) → key_cmp key x.0 ≡ Less → value_in (x ∷ xs) key ≡ None
none_below key x xs rising below = lookup-none (is_at (key_cmp key)) (x ∷ xs) (none_below_head key_cmp_total key x xs rising below)

none_after : (x : Key × Value) (xs : Flows) (key : Key) → HasRisingKeys (x ∷ xs) → is_at (key_cmp key) x.0 ≡ true → value_in xs key ≡ None
none_after x xs key rising here = lookup-none (is_at (key_cmp key)) xs
    (none_past_head (eq_by_cmp_equiv key_cmp_total) key x xs (IsDistinct-from_sorted key_cmp _ rising) here)

first_same : (x y : Key × Value) (xs ys : Flows) → HasRisingKeys (x ∷ xs) → HasRisingKeys (y ∷ ys)
    → ((key : Key) → value_in (x ∷ xs) key ≡ value_in (y ∷ ys) key) → (o : Ordering) → key_cmp x.0 y.0 ≡ o → x ≡ y
first_same x y xs ys a b same Less e =
    let here = first_value x xs in
    let gone = none_below x.0 y ys b e in
    let there = same x.0 in
    absurd (cc)
first_same x y xs ys a b same Greater e =
    let here = first_value y ys in
    let gone = none_below y.0 x xs a (key_cmp_total.antisymm y.0 x.0 ∙ ap ordering_reverse e) in
    let there = same y.0 in
    absurd (cc)
first_same x y xs ys a b same Equal e =
    let key : x.0 ≡ y.0 = exact_keys x.0 y.0 e in
    let some : Some x.1 ≡ Some y.1 = sym (first_value x xs) ∙ same x.0 ∙ ap (value_in (y ∷ ys)) key ∙ first_value y ys in
    let value : x.1 ≡ y.1 = cc in
    λ i. (key i, value i)

rest_same : (x y : Key × Value) (xs ys : Flows) → HasRisingKeys (x ∷ xs) → HasRisingKeys (y ∷ ys)
    → ((key : Key) → value_in (x ∷ xs) key ≡ value_in (y ∷ ys) key) → x ≡ y → (key : Key) → value_in xs key ≡ value_in ys key
rest_same x y xs ys a b same first key =
    let alike = ap (λ (p : Key × Value). is_at (key_cmp key) p.0) first in
    let here = λ (e : is_at (key_cmp key) x.0 ≡ true). none_after x xs key a e ∙ sym (none_after y ys key b (sym alike ∙ e)) in
    let later = λ (e : is_at (key_cmp key) x.0 ≡ false). sym (lookup_tail (is_at (key_cmp key)) x xs e) ∙ same key ∙ lookup_tail (is_at (key_cmp key)) y ys (sym alike ∙ e) in
    ⊎_elim here later (cases_Bool (is_at (key_cmp key) x.0))

-- lists by rising key that have the same at each key are one
pub rising_same : (xs ys : Flows) → HasRisingKeys xs → HasRisingKeys ys → ((key : Key) → value_in xs key ≡ value_in ys key) → xs ≡ ys
rising_same [] [] a b same = refl
rising_same [] (y ∷ ys) a b same = let here = first_value y ys in let there = same y.0 in absurd (cc)
rising_same (x ∷ xs) [] a b same = let here = first_value x xs in let there = same x.0 in absurd (cc)
rising_same (x ∷ xs) (y ∷ ys) a b same =
    let first : x ≡ y = first_same x y xs ys a b same (key_cmp x.0 y.0) refl in
    let rest : xs ≡ ys = rising_same xs ys (sorted_tail key_cmp _ _ a) (sorted_tail key_cmp _ _ b) (rest_same x y xs ys a b same first) in
    λ i. first i ∷ rest i
