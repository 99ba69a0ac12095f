-- Pairs have a fold, as a list by rising key.
use Rattle.std.specs.BTreeMap.{is_at}
use Rattle.std.specs.FinMap.{FinMap, empty, entries, entries_sorted, get, get-empty, get-entries, get-insert, insert}
use Rattle.std.specs.FinMap.Entries.{below_all, find, is_sorted}
use Rattle.std.specs.List.{AllByRecursion}
use Rattle.std.specs.List.Sorted.{IsStrictlySortedBy}
use Rattle.std.specs.Map.{keys_of}
use Rattle.std.specs.Ordering.{is_lt}
use Rattle.std.proofs.Common.{◌≡◌, ◌≢◌, ◌∙◌, Bool, true, false, cond, ◌&&◌, T, Some, [], ◌∷◌, ◌++◌, Less, Equal, Greater, Ordering, append-nil, append_assoc, refl, sym, ap, subst}
use Rattle.std.proofs.lemmas.Bool.{false_from_ne_true}
use Rattle.flow_fold.specs.Flows.{Flows, HasRisingKeys, value_in}
use Rattle.flow_fold.specs.Fold.{IsFold, values_at}
use Rattle.flow_fold.specs.Key.{key_cmp}
use Rattle.flow_fold.specs.declared.key.Key.{Key}
use Rattle.flow_fold.specs.declared.value.Value.{Value}
use Rattle.flow_fold.proofs.Folds.{fold_none, fold_push, fold_same, some_total}
use Rattle.flow_fold.proofs.SameKey.{key_cmp_total, same_key}

-- a map from keys to values
abbrev FlowMap : Type 0
FlowMap = FinMap key_cmp Value

-- a map that is the fold of some pairs, and further pairs
fold_on : (done left : Flows) (map : FlowMap) → IsFold done (get map) → (whole : FlowMap) × IsFold (done ++ left) (get whole)
fold_on done [] map is = (map, subst (λ (ps : Flows). IsFold ps (get map)) (sym (append-nil done)) is)
fold_on done ((key, value) ∷ left) map is =
    let total = some_total (values_at key done) (get map key) value (is key) in
    let next = insert map key total.0 in
    let here : get next key ≡ Some total.0 = get-insert key_cmp_total map key total.0 key ∙ ap (λ b. cond b (Some total.0) (get map key)) ((same_key key key).1 refl) in
    let elsewhere : (other : Key) → other ≢ key → get next other ≡ get map other = λ other apart. get-insert key_cmp_total map key total.0 other
    ∙ ap (λ b. cond b (Some total.0) (get map other)) (false_from_ne_true _ (λ same. apart ((same_key other key).0 same))) in
    let whole = fold_on (done ++ (key, value) ∷ []) left next (fold_push done (get map) (get next) key value total.0 total.1 here elsewhere is) in
    (whole.0, subst (λ (ps : Flows). IsFold ps (get whole.0)) (append_assoc done ((key, value) ∷ []) left) whole.1)

both_hold : (a b : Bool) → T (a && b) → T a × T b
both_hold true b h = (tt, h)
both_hold false b h = absurd h

is_less : (order : Ordering) → T (is_lt order) → order ≡ Less
is_less Less h = refl
is_less Equal h = absurd h
is_less Greater h = absurd h

above : (key : Key) (flows : Flows) → T (below_all key_cmp key flows) → AllByRecursion (λ other. key_cmp key other ≡ Less) (keys_of flows)
above key [] h = tt
above key (flow ∷ flows) h =
    let parts = both_hold (is_lt (key_cmp key flow.0)) (below_all key_cmp key flows) h in
    (is_less (key_cmp key flow.0) parts.0, above key flows parts.1)

rising : (flows : Flows) → T (is_sorted key_cmp flows) → HasRisingKeys flows
unfolding IsStrictlySortedBy
rising [] h = tt
rising (flow ∷ flows) h =
    let parts = both_hold (below_all key_cmp flow.0 flows) (is_sorted key_cmp flows) h in
    (above flow.0 flows parts.0, rising flows parts.1)

value_found : (flows : Flows) (key : Key) → find key_cmp key flows ≡ value_in flows key
value_found [] key = refl
value_found (flow ∷ flows) key = ap (cond (is_at (key_cmp key) flow.0) (Some flow.1)) (value_found flows key)

-- pairs have a list by rising key of which the look-up is their fold
pub some_fold : (pairs : Flows) → (flows : Flows) × HasRisingKeys flows × IsFold pairs (value_in flows)
some_fold pairs =
    let whole = fold_on [] pairs empty (fold_none (get empty) (get-empty key_cmp)) in
    let flows = entries whole.0 in
    (flows, rising flows (entries_sorted whole.0), fold_same pairs (get whole.0) (value_in flows) (λ key. get-entries whole.0 key ∙ value_found flows key) whole.1)
