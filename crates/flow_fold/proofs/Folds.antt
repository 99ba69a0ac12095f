-- Folds: of no pairs, of one pair more, in any order, and that there is one only.
use Rattle.std.proofs.Common.{◌≡◌, ◌≢◌, ◌∙◌, ℕ, ◌%◌, ◌^◌, ◌<◌, Bool, true, false, cond, Option, Some, None, List, [], ◌∷◌, ◌++◌, ap, refl, sym, subst, arith, length}
use Rattle.std.specs.Prelude.{map, filter, MatchOption, Contains}
use Rattle.std.specs.BTreeMap.{BTreeMap, Updates, get, is_at}
use Rattle.std.specs.List.Sorted.{IsPermutation}
use Rattle.std.proofs.lemmas.Bool.{false≢true, false_from_ne_true}
use Rattle.std.proofs.lemmas.List.{map-append, append-nil}
use Rattle.std.proofs.lemmas.List.Elements.{filter-append}
use Rattle.std.proofs.lemmas.List.Sorted.{IsPermutation-map, length_permutation}
use Rattle.flow_fold.specs.Flows.{Flows, HasRisingKeys, value_in}
use Rattle.flow_fold.specs.Fold.{IsFold, IsTotal, values_at}
use Rattle.flow_fold.specs.Key.{key_cmp}
use Rattle.flow_fold.specs.Merge.{merge_of, merged_into}
use Rattle.flow_fold.specs.declared.key.Key.{Key}
use Rattle.flow_fold.specs.declared.value.Value.{Value}
use Rattle.flow_fold.proofs.Filters.{IsPermutation-filter}
use Rattle.flow_fold.proofs.Rising.{rising_same}
use Rattle.flow_fold.proofs.SameKey.{same_key}
use Rattle.flow_fold.proofs.Totals.{total_alone, total_one, total_push, total_permutation, total_unique}

one_kept : (b : Bool) (k : Key) (v : Value) → map (λ (p : Key × Value). p.1) (cond b ((k, v) ∷ []) []) ≡ cond b (v ∷ []) []
one_kept true k v = refl
one_kept false k v = refl

-- the values of pairs in a row are those of each part
pub values_at-append : (key : Key) (pairs others : List (Key × Value)) → values_at key (pairs ++ others) ≡ values_at key pairs ++ values_at key others
unfolding values_at
values_at-append key pairs others =
    let has_key = λ (p : Key × Value). is_at (key_cmp key) p.0 in
    ap (map (λ (p : Key × Value). p.1)) (filter-append has_key pairs others) ∙ map-append (λ (p : Key × Value). p.1) (filter has_key pairs) (filter has_key others)

values_at-push : (key k : Key) (v : Value) (pairs : List (Key × Value)) → values_at key (pairs ++ (k, v) ∷ []) ≡ values_at key pairs ++ cond (is_at (key_cmp key) k) (v ∷ []) []
unfolding values_at
values_at-push key k v pairs = values_at-append key pairs ((k, v) ∷ []) ∙ ap (λ (vs : List Value). values_at key pairs ++ vs) (one_kept (is_at (key_cmp key) k) k v)

values_at-permutation : (key : Key) (pairs others : List (Key × Value)) → IsPermutation pairs others → IsPermutation (values_at key pairs) (values_at key others)
unfolding values_at
values_at-permutation key pairs others h = IsPermutation-map (λ (p : Key × Value). p.1) _ _ (IsPermutation-filter (λ (p : Key × Value). is_at (key_cmp key) p.0) pairs others h)

-- what a fold has at a key whose values are these
abbrev TotalsTo : List Value → Option Value → Type 0
TotalsTo values at = MatchOption at (values ≡ []) (IsTotal values)

one_more : (values : List Value) (at : Option Value) (v : Value) → v.packets < 2 ^ 64 → v.octets < 2 ^ 64 → TotalsTo values at → IsTotal (values ++ v ∷ []) (merged_into at v)
one_more values None v p o h = subst (λ (vs : List Value). IsTotal (vs ++ v ∷ []) v) (sym h) (total_one v p o)
one_more values (Some t) v p o h = total_push values t v h

-- with one value more there is a total
pub some_total : (values : List Value) (at : Option Value) (v : Value) → TotalsTo values at → (total : Value) × IsTotal (values ++ v ∷ []) total
some_total values None v h =
    let total : Value = record v { packets = v.packets % 2 ^ 64; octets = v.octets % 2 ^ 64 } in
    (total, subst (λ (vs : List Value). IsTotal (vs ++ v ∷ []) total) (sym h) (total_alone v))
some_total values (Some t) v h = (merge_of t v, total_push values t v h)

any_order : (values others : List Value) (at : Option Value) → IsPermutation values others → TotalsTo values at → TotalsTo others at
any_order values others None p h = nil_from_length others (length_permutation values others p ∙ ap length h)
  where
    nil_from_length : (vs : List Value) → length vs ≡ 0 → vs ≡ []
    nil_from_length [] e = refl
    nil_from_length (v ∷ vs) e = absurd (omega arith)
any_order values others (Some t) p h = total_permutation values others t p h

-- no values have no total
pub no_total : (values : List Value) (t : Value) → values ≡ [] → IsTotal values t → ⊥
no_total values t none_there h = nothing_in t.first (subst (λ (vs : List Value). IsTotal vs t) none_there h).first.among
  where
    nothing_in : (n : ℕ) → Contains [] n → ⊥
    nothing_in n c = omega arith

at_most_one : (values : List Value) (at by : Option Value) → TotalsTo values at → TotalsTo values by → at ≡ by
at_most_one values None None a b = refl
at_most_one values None (Some t) a b = absurd (no_total values t a b)
at_most_one values (Some s) None a b = absurd (no_total values s b a)
at_most_one values (Some s) (Some t) a b = ap (λ (v : Value). Some v) (total_unique values s t a b)

-- no pairs fold to nothing
pub fold_none : (at : Key → Option Value) → ((key : Key) → at key ≡ None) → IsFold [] at
unfolding values_at
fold_none at nothing key = subst (TotalsTo []) (sym (nothing key)) refl

-- one pair more, at a key that is its own where b holds
one_pair : (b : Bool) (values : List Value) (old new : Option Value) (v w : Value)
    → (b ≡ true → IsTotal (values ++ v ∷ []) w × (new ≡ Some w)) → (b ≡ false → new ≡ old) → TotalsTo values old → TotalsTo (values ++ cond b (v ∷ []) []) new
one_pair true values old new v w here kept h = let at = here refl in subst (TotalsTo (values ++ v ∷ [])) (sym at.1) at.0
one_pair false values old new v w here kept h = subst (λ (vs : List Value). TotalsTo vs new) (sym (append-nil values)) (subst (TotalsTo values) (sym (kept refl)) h)

-- with one pair more, its key has the total with its value, and each other key stays
pub fold_push : (pairs : List (Key × Value)) (old new : Key → Option Value) (key : Key) (value total : Value)
    → IsTotal (values_at key pairs ++ value ∷ []) total → new key ≡ Some total → ((other : Key) → other ≢ key → new other ≡ old other)
    → IsFold pairs old → IsFold (pairs ++ (key, value) ∷ []) new
fold_push pairs old new key value total is here elsewhere h q =
    let at = λ (e : is_at (key_cmp q) key ≡ true).
    subst (λ (k : Key). IsTotal (values_at k pairs ++ value ∷ []) total × (new k ≡ Some total)) (sym ((same_key q key).0 e)) (is, here) in
    let kept = λ (e : is_at (key_cmp q) key ≡ false). elsewhere q (λ same. false≢true (sym e ∙ (same_key q key).1 same)) in
    subst (λ (vs : List Value). TotalsTo vs (new q)) (sym (values_at-push q key value pairs))
    (one_pair (is_at (key_cmp q) key) (values_at q pairs) (old q) (new q) value total at kept (h q))

-- a fold of pairs is one of the same pairs in any order
pub fold_permutation : (pairs others : List (Key × Value)) (at : Key → Option Value) → IsPermutation pairs others → IsFold pairs at → IsFold others at
fold_permutation pairs others at p h key = any_order _ _ (at key) (values_at-permutation key pairs others p) (h key)

-- pairs have one fold at most
pub fold_unique : (pairs : List (Key × Value)) (at by : Key → Option Value) → IsFold pairs at → IsFold pairs by → (key : Key) → at key ≡ by key
fold_unique pairs at by a b key = at_most_one _ (at key) (by key) (a key) (b key)

-- a fold is what it is at each key
pub fold_same : (pairs : List (Key × Value)) (at by : Key → Option Value) → ((key : Key) → at key ≡ by key) → IsFold pairs at → IsFold pairs by
fold_same pairs at by same h key = subst (TotalsTo (values_at key pairs)) (same key) (h key)

-- a map in which the value was merged in at its key is the fold of one pair more
pub fold_updated : (pairs : List (Key × Value)) (m n : BTreeMap Key Value) (key : Key) (value w : Value)
    → value.packets < 2 ^ 64 → value.octets < 2 ^ 64
    → w ≡ merged_into (get key_cmp m key) value → Updates key_cmp m n key (Some w)
    → IsFold pairs (get key_cmp m) → IsFold (pairs ++ (key, value) ∷ []) (get key_cmp n)
fold_updated pairs m n key value w p o is updates h =
    fold_push pairs (get key_cmp m) (get key_cmp n) key value w
    (subst (IsTotal (values_at key pairs ++ value ∷ [])) (sym is) (one_more (values_at key pairs) (get key_cmp m key) value p o (h key)))
    updates.1
    (λ other apart. updates.2 other (false_from_ne_true _ (λ e. apart (sym ((same_key key other).0 e)))))
    h

-- pairs have one list by rising key of which the look-up is their fold
pub fold_list_unique : (pairs : List (Key × Value)) (xs ys : Flows) → HasRisingKeys xs → HasRisingKeys ys → IsFold pairs (value_in xs) → IsFold pairs (value_in ys) → xs ≡ ys
fold_list_unique pairs xs ys x y a b = rising_same xs ys x y (fold_unique pairs (value_in xs) (value_in ys) a b)
