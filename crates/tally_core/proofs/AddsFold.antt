-- What a call of a tally leaves of the flows of an object.
use Rattle.std.proofs.Common.{◌≡◌, ◌∙◌, ℕ, Bool, true, false, cond, List, [], ◌∷◌, ◌++◌, Option, Some, None, refl, sym, ap, subst}
use Rattle.std.specs.Option.{option_map, option_map_or}
use Rattle.std.specs.Prelude.{MatchOption}
use Rattle.std.proofs.lemmas.Bool.{false≢true}
use Rattle.flow_fold.proofs.Folds.{fold_push}
use Rattle.flow_fold.proofs.Totals.{total_one, total_push}
use Rattle.flow_fold.proofs.Words.{value_of_words-words_of}
use Rattle.flow_fold.specs.Flows.{Flows}
use Rattle.flow_fold.specs.Fold.{IsFold, IsTotal, values_at}
use Rattle.flow_fold.specs.Merge.{merge_of}
use Rattle.flow_fold.specs.Words.{value_of_words, words_of}
use Rattle.flow_fold.specs.declared.key.Key.{Key}
use Rattle.flow_fold.specs.declared.value.Value.{Value}
use Rattle.seat_history.proofs.Changed.{same_from_words}
use Rattle.seat_history.specs.Contents.{Contents, set_at}
use Rattle.seat_history.specs.Key.{key_number}
use Rattle.seat_history.specs.Step.{contents_after, is_same, is_value, replace_reply, reply_to, values_after}
use Rattle.seat_history.specs.declared.call.Call.TheVariants.{Find, Insert, Replace}
use Rattle.seat_history.specs.declared.call.Call.{Call}
use Rattle.seat_history.specs.declared.key.KeyWords.{KeyWords}
use Rattle.seat_history.specs.declared.reply.Reply.TheVariants.{Done, Yes, Present, Found}
use Rattle.seat_history.specs.declared.reply.Reply.{Reply}
use Rattle.step_rules.specs.History.{IsKey}
use Rattle.tally_core.proofs.Folding.{flow_else, flow_in, flow_set, flow_there, insert_done, replace_yes}
use Rattle.tally_core.specs.Adding.{AddsBy, HasValues, IsValueInRange, is_adding_reply, key_words}

-- what a fold has at a key
abbrev TotalsTo : List Value → Option Value → Type 0
TotalsTo values at = MatchOption at (values ≡ []) (IsTotal values)

-- the words of this value under the pair's key, where they are the total with the pair's
total_put : (done : Flows) (values : ℕ → Option (List ℕ)) (pair : Key × Value) (total : Value) → IsKey (key_words pair.0)
    → IsTotal (values_at pair.0 done ++ pair.1 ∷ []) total → IsFold done (flow_in values)
    → IsFold (done ++ pair ∷ []) (flow_in (set_at values (key_number (key_words pair.0)) (Some (words_of total))))
total_put done values pair total key is fold =
    fold_push done (flow_in values) (flow_in (set_at values (key_number (key_words pair.0)) (Some (words_of total)))) pair.0 pair.1 total is
    (flow_set values pair.0 (words_of total) key ∙ ap (λ (v : Value). Some v) (value_of_words-words_of total))
    (λ other ne. flow_else values pair.0 (words_of total) key other ne) fold

inserted : (done : Flows) (values : ℕ → Option (List ℕ)) (pair : Key × Value) → IsKey (key_words pair.0) → IsValueInRange pair.1
    → values (key_number (key_words pair.0)) ≡ None → IsFold done (flow_in values)
    → IsFold (done ++ pair ∷ []) (flow_in (values_after values (Insert (key_words pair.0) (words_of pair.1))))
inserted done values pair key range none fold =
    let n = key_number (key_words pair.0) in
    let nothing : flow_in values pair.0 ≡ None = flow_there values pair.0 key ∙ ap (option_map value_of_words) none in
    let empty : values_at pair.0 done ≡ [] = subst (TotalsTo (values_at pair.0 done)) nothing (fold pair.0) in
    let total : IsTotal (values_at pair.0 done ++ pair.1 ∷ []) pair.1 = subst (λ (vs : List Value). IsTotal (vs ++ pair.1 ∷ []) pair.1) (sym empty) (total_one pair.1 range.packets range.octets) in
    subst (λ (o : Option (List ℕ)). IsFold (done ++ pair ∷ []) (flow_in (option_map_or (λ _. values) o (set_at values n (Some (words_of pair.1)))))) (sym none)
    (total_put done values pair pair.1 key total fold)

replaced : (done : Flows) (values : ℕ → Option (List ℕ)) (pair : Key × Value) (value : Value) → IsKey (key_words pair.0)
    → values (key_number (key_words pair.0)) ≡ Some (words_of value) → IsFold done (flow_in values)
    → IsFold (done ++ pair ∷ []) (flow_in (values_after values (Replace (key_words pair.0) (words_of value) (words_of (merge_of value pair.1)))))
replaced done values pair value key there fold =
    let n = key_number (key_words pair.0) in
    let next = set_at values n (Some (words_of (merge_of value pair.1))) in
    let old : flow_in values pair.0 ≡ Some value = flow_there values pair.0 key ∙ (ap (option_map value_of_words) there ∙ ap (λ (v : Value). Some v) (value_of_words-words_of value)) in
    let total : IsTotal (values_at pair.0 done) value = subst (TotalsTo (values_at pair.0 done)) old (fold pair.0) in
    let same : is_value (values n) (words_of value) ≡ true = ap (λ o. is_value o (words_of value)) there ∙ same_from_words (words_of value) (words_of value) refl in
    subst (λ b. IsFold (done ++ pair ∷ []) (flow_in (cond b next values))) (sym same)
    (total_put done values pair (merge_of value pair.1) key (total_push (values_at pair.0 done) value pair.1 total) fold)

-- a call that adds a pair
pub adds_fold : (done : Flows) (contents : Contents) (held : Option (List ℕ)) (call : Call) (reply : Reply) (pair : Key × Value) → IsKey (key_words pair.0) → IsValueInRange pair.1
    → AddsBy pair call reply → reply_to contents held call ≡ reply → IsFold done (flow_in contents.values)
    → IsFold (done ++ pair ∷ []) (flow_in (contents_after contents call).values)
adds_fold done contents held (Insert k val) Done pair key range adds right fold =
    subst (λ (z : KeyWords × List ℕ). IsFold (done ++ pair ∷ []) (flow_in (values_after contents.values (Insert z.0 z.1)))) (λ i. (sym adds.0 i, sym adds.1 i))
    (inserted done contents.values pair key range
    (subst (λ (k : KeyWords). contents.values (key_number k) ≡ None) adds.0 (insert_done (contents.values (key_number k)) right)) fold)
adds_fold done contents held (Replace k old new) Yes pair key range adds right fold =
    let value = adds.1.0 in
    let there : contents.values (key_number (key_words pair.0)) ≡ Some (words_of value) = subst
    (λ (z : KeyWords × List ℕ). contents.values (key_number z.0) ≡ Some z.1) (λ i. (adds.0 i, adds.1.2 i)) (replace_yes (contents.values (key_number k)) old right) in
    subst (λ (z : KeyWords × List ℕ × List ℕ). IsFold (done ++ pair ∷ []) (flow_in (values_after contents.values (Replace z.0 z.1 z.2))))
    (λ i. (sym adds.0 i, sym adds.1.2 i, sym adds.1.3 i))
    (replaced done contents.values pair value key there fold)
adds_fold done contents held (Insert k val) _ pair key range adds right fold = absurd adds
adds_fold done contents held (Replace k old new) _ pair key range adds right fold = absurd adds
adds_fold done contents held _ _ pair key range adds right fold = absurd adds

insert_still : (there : Option (List ℕ)) (values : ℕ → Option (List ℕ)) (n : ℕ) (val : List ℕ) (reply : Reply) → option_map_or Present there Done ≡ reply → is_adding_reply reply ≡ false
    → option_map_or (λ _. values) there (set_at values n (Some val)) ≡ values
insert_still None values n val reply right not_adding = absurd (false≢true (sym not_adding ∙ sym (ap is_adding_reply right)))
insert_still (Some x) values n val reply right not_adding = refl

replace_still : (there : Option (List ℕ)) (values next : ℕ → Option (List ℕ)) (old : List ℕ) (reply : Reply) → replace_reply there old ≡ reply → is_adding_reply reply ≡ false
    → cond (is_value there old) next values ≡ values
replace_still None values next old reply right not_adding = refl
replace_still (Some x) values next old reply right not_adding = still (is_same x old) (ap is_adding_reply right ∙ not_adding)
  where
    still : (b : Bool) → is_adding_reply (cond b Yes (Found x)) ≡ false → cond b next values ≡ values
    still true e = absurd (false≢true (sym e))
    still false e = refl

-- any other call of a tally leaves all values
pub others_still : (contents : Contents) (held : Option (List ℕ)) (call : Call) (reply : Reply) → HasValues call → reply_to contents held call ≡ reply → is_adding_reply reply ≡ false
    → (contents_after contents call).values ≡ contents.values
others_still contents held (Find key) reply has right not_adding = refl
others_still contents held (Insert key val) reply has right not_adding = insert_still (contents.values (key_number key)) contents.values (key_number key) val reply right not_adding
others_still contents held (Replace key old new) reply has right not_adding = replace_still (contents.values (key_number key)) contents.values
    (set_at contents.values (key_number key) (Some new)) old reply right not_adding
others_still contents held _ reply has right not_adding = absurd has
