-- A worker that was answered Full has met more keys than the plan is made for.
use Rattle.std.proofs.Common.{◌≡◌, ◌∙◌, ℕ, ◌+◌, ◌-◌, ◌*◌, ◌<◌, ◌≤◌, ◌⊎◌, inl, inr}
use Rattle.std.proofs.Common.{suc, zero, All, Bool, true, eqb, List, [], ◌∷◌, ◌++◌, Option}
use Rattle.std.proofs.Common.{Some, None, IsSome, length, take, drop, map, is_some, refl, sym, ap, subst, arith, ⊎_elim}
use Rattle.std.specs.BTreeMap.{is_at}
use Rattle.std.specs.Cmp.{eq_by_cmp_equiv}
use Rattle.std.specs.Map.{keys_of}
use Rattle.std.specs.Prelude.{MatchOption, min}
use Rattle.std.proofs.lemmas.Bool.{cases_lt, false≢true}
use Rattle.std.proofs.lemmas.List.{length-map, take-append-drop}
use Rattle.std.proofs.lemmas.List.Elements.{All-contains, All-filter, All-weaker, Contains-push}
use Rattle.std.proofs.lemmas.Map.Entries.{length-keys_of}
use Rattle.std.proofs.lemmas.Map.Keys.{IsDistinct-from_sorted}
use Rattle.std.proofs.lemmas.Map.Made.{is_some-lookup}
use Rattle.std.proofs.lemmas.Map.Steps.{length-le_from_keys}
use Rattle.big_atomic.proofs.Lines.{callers_below}
use Rattle.cache_hash.proofs.FewKeys.{few_keys_none_full}
use Rattle.cache_hash.specs.Keys.{NotFull, OnlyPuts}
use Rattle.flow_fold.proofs.Folds.{fold_same, no_total, values_at-append}
use Rattle.flow_fold.proofs.SameKey.{key_cmp_total}
use Rattle.flow_fold.proofs.SomeFold.{some_fold}
use Rattle.flow_fold.specs.Flows.{Flows, value_in}
use Rattle.flow_fold.specs.Fold.{IsFold, IsTotal, values_at}
use Rattle.flow_fold.specs.Key.{key_cmp}
use Rattle.flow_fold.specs.declared.key.Key.{Key}
use Rattle.flow_fold.specs.declared.value.Value.{Value}
use Rattle.seat_history.specs.History.{state_at}
use Rattle.seat_history.specs.Pairs.{ArePairsOf, IsPairInRange, Pairs}
use Rattle.seat_history.specs.declared.call.Call.TheVariants.{Find, Insert, Replace}
use Rattle.seat_history.specs.declared.call.Call.{Call}
use Rattle.step_rules.specs.Closing.{ClosedData}
use Rattle.step_rules.specs.Line.{stands_by}
use Rattle.step_rules.specs.declared.plan.Plan.{Plan}
use Rattle.step_rules.specs.declared.view.Stand.{Stand}
use Rattle.tally_core.proofs.ClosedFlows.{flows_found, flows_rise}
use Rattle.tally_core.proofs.ClosedPairs.{pairs_left}
use Rattle.tally_core.proofs.Folding.{flow_in}
use Rattle.tally_core.proofs.InOrder.{all_stands_are}
use Rattle.tally_core.proofs.Summed.{part, parts, parts_fold}
use Rattle.tally_core.specs.Adding.{EndsFull, HasMoreKeys, HasTallied, HasValues, IsTallyCall, flow_of, plan_of_tally}
use Rattle.tally_core.specs.Draws.{batch_of, drawn_pairs}
use Rattle.tally_core.specs.Tallying.{joined}

-- pairs without a key have parts without it
none_in_front : (key : Key) (front back : Flows) → values_at key (front ++ back) ≡ [] → values_at key front ≡ []
none_in_front key front back none = front_none (values_at key front) (values_at key back) (sym (values_at-append key front back) ∙ none)
  where
    front_none : (a b : List Value) → a ++ b ≡ [] → a ≡ []
    front_none [] b e = refl
    front_none (x ∷ a) b e = cc e

none_behind : (key : Key) (front back : Flows) → values_at key (front ++ back) ≡ [] → values_at key back ≡ []
none_behind key front back none =
    let first = none_in_front key front back none in
    ap (λ (l : List Value). l ++ values_at key back) (sym first) ∙ (sym (values_at-append key front back) ∙ none)

no_values : (key : Key) → values_at key [] ≡ []
unfolding values_at
no_values key = refl

-- so a batch of them has none
batch_none : (key : Key) (pairs : Flows) (i : ℕ) → values_at key pairs ≡ [] → values_at key (batch_of pairs i) ≡ []
batch_none key pairs i none =
    let from = 256 * i in
    let long = min (from + 256) (length pairs) - from in
    let back : values_at key (drop from pairs) ≡ [] = none_behind key (take from pairs) (drop from pairs) (ap (values_at key) (take-append-drop from pairs) ∙ none) in
    none_in_front key (take long (drop from pairs)) (drop long (drop from pairs)) (ap (values_at key) (take-append-drop long (drop from pairs)) ∙ back)

drawn_none : (key : Key) (pairs : Flows) (batches : List ℕ) → values_at key pairs ≡ [] → values_at key (drawn_pairs pairs batches) ≡ []
drawn_none key pairs [] none = no_values key
drawn_none key pairs (i ∷ batches) none = values_at-append key (batch_of pairs i) (drawn_pairs pairs batches) ∙ (λ j. batch_none key pairs i none j ++ drawn_none key pairs batches none j)

module _ (workers : ℕ) (pairs : Flows) (drawn : ℕ → List ℕ) (full : ℕ → Bool) (closed : ClosedData) (tallied : HasTallied workers pairs drawn full closed) (key : Key)
    (none : values_at key pairs ≡ []) where
  part_none : (w : ℕ) (d : (w < workers) ⊎ (workers ≤ w)) → values_at key (part workers pairs drawn full closed tallied w d) ≡ []
  part_none w (inl below) = let count = (tallied.added w below).count in
      none_in_front key (take count (drawn_pairs pairs (drawn w))) (drop count (drawn_pairs pairs (drawn w)))
      (ap (values_at key) (take-append-drop count (drawn_pairs pairs (drawn w))) ∙ drawn_none key pairs (drawn w) none)
  part_none w (inr beyond) = no_values key

  -- what was added has no key that the pairs haven't
  none_added : (n : ℕ) → values_at key (joined n (parts workers pairs drawn full closed tallied)) ≡ []
  none_added zero = no_values key
  none_added (suc n) = values_at-append key (joined n (parts workers pairs drawn full closed tallied)) (parts workers pairs drawn full closed tallied n)
      ∙ (λ i. none_added n i ++ part_none n (cases_lt n workers) i)

-- a key with a value among the pairs that were added has one in the fold of all pairs
value_there : (some_value whole : Option Value) (added all : List Value) → is_some some_value ≡ true → MatchOption some_value (added ≡ []) (IsTotal added)
    → MatchOption whole (all ≡ []) (IsTotal all) → (all ≡ [] → added ≡ []) → IsSome whole
value_there None whole added all is total fold none = absurd (false≢true is)
value_there (Some v) (Some t) added all is total fold none = refl
value_there (Some v) None added all is total fold none = absurd (no_total added v (none fold) total)

-- a tally puts pairs and values, and takes none out
only_puts : (call : Call) → HasValues call → OnlyPuts call
only_puts (Find key) has = tt
only_puts (Insert key val) has = tt
only_puts (Replace key old new) has = tt
only_puts _ has = absurd has

-- where no stand is Full, none ends so
ends_answered : (stands : List Stand) → All NotFull stands → EndsFull true stands → ⊥
ends_answered stands all ends =
    let s = ends.0 in
    let answered : NotFull s = All-contains NotFull (ends.1 ++ s ∷ []) s (subst (All NotFull) ends.2 all) (Contains-push ends.1 s) in
    false≢true (sym answered ∙ ends.3)

module _ (workers : ℕ) (pairs : Flows) (drawn : ℕ → List ℕ) (full : ℕ → Bool) (closed : ClosedData) (tallied : HasTallied workers pairs drawn full closed) where
  -- the closed object has no keys but the pairs'
  no_more : (left : Pairs) (flows : Flows) → ArePairsOf (state_at closed.history (length closed.history)).values left → All IsPairInRange left
      → IsFold pairs (value_in flows) → length left ≤ length flows
  no_more left flows are in_range fold =
      let values = (state_at closed.history (length closed.history)).values in
      let found = map flow_of left in
      let added = joined workers (parts workers pairs drawn full closed tallied) in
      let has : IsFold added (value_in found) =
      fold_same added (flow_in values) (value_in found) (flows_found values left are in_range) (parts_fold workers pairs drawn full closed tallied) in
      let once = IsDistinct-from_sorted key_cmp (keys_of found) (flows_rise values left are in_range) in
      let many = length-le_from_keys (eq_by_cmp_equiv key_cmp_total) (keys_of found) flows once (λ key any.
      value_there (value_in found key) (value_in flows key) (values_at key added) (values_at key pairs) (is_some-lookup (is_at (key_cmp key)) found ∙ any)
      (has key) (fold key) (λ none. none_added workers pairs drawn full closed tallied key none workers)) in
      omega (arith, many, length-keys_of found, length-map left flow_of)

  -- no stand takes a key out
  all_put : All (λ (s : Stand). OnlyPuts s.call) closed.stands
  all_put = All-weaker IsTallyCall (λ (s : Stand). OnlyPuts s.call) (λ s is. only_puts s.call is.values) closed.stands
      (all_stands_are IsTallyCall closed.plan.seats closed.stands (callers_below tallied.closed_is.0 closed tallied.law tallied.closed_is.1)
      (λ w l. (tallied.added w (subst (λ n. w < n) tallied.workers_are l)).calls))

  -- so with no more keys than the plan is made for none is Full
  none_full : (flows buckets : ℕ) (left : Pairs) → closed.plan ≡ plan_of_tally pairs workers flows buckets
      → ArePairsOf (state_at closed.history (length closed.history)).values left → length left ≤ flows → All NotFull closed.stands
  none_full flows buckets left plan are few =
      let share : closed.plan.share ≡ 2 * flows + 4 * workers + 1 = ap (λ (p : Plan). p.share) plan in
      let seats = tallied.workers_are in
      few_keys_none_full flows tallied.closed_is.0 closed tallied.law tallied.closed_is.1 all_put
      (record { share = omega (arith, share, seats); pairs = left; are = are; few = few })

  -- and a worker that was answered Full shows that the object has more
  more_left : (flows buckets : ℕ) (left : Pairs) (w : ℕ) → closed.plan ≡ plan_of_tally pairs workers flows buckets
      → ArePairsOf (state_at closed.history (length closed.history)).values left → w < workers → full w ≡ true → flows < length left
  more_left flows buckets left w plan are below stopped = ⊎_elim (λ more. more)
      (λ few. absurd (ends_answered (stands_by w closed.stands)
      (All-filter (λ (s : Stand). eqb s.by w) NotFull closed.stands (none_full flows buckets left plan are few))
      (subst (λ b. EndsFull b (stands_by w closed.stands)) stopped (tallied.added w below).ends)))
      (cases_lt flows (length left))

-- where a worker was answered Full, the pairs have more keys than the plan is made for
pub many : (pairs : Flows) (workers flows buckets : ℕ) (drawn : ℕ → List ℕ) (full : ℕ → Bool) (closed : ClosedData) (w : ℕ)
    → closed.plan ≡ plan_of_tally pairs workers flows buckets → HasTallied workers pairs drawn full closed → w < workers → full w ≡ true
    → HasMoreKeys flows pairs
many pairs workers flows buckets drawn full closed w plan tallied below stopped =
    let left = pairs_left closed.plan closed.history tallied.closed_is.1.whole in
    let more = more_left workers pairs drawn full closed tallied flows buckets left.0 w plan left.1 below stopped in
    let fold = some_fold pairs in
    let few = no_more workers pairs drawn full closed tallied left.0 fold.0 left.1 left.2 fold.2 in
    (fold.0, fold.1, fold.2, omega (arith, more, few))
