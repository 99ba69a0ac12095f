-- The values that calls leave have pairs by rising key.
use Rattle.std.specs.List.{AllByRecursion}
use Rattle.std.specs.List.Sorted.{IsStrictlySortedBy}
use Rattle.std.specs.Map.{keys_of}
use Rattle.std.specs.Option.{option_map_or}
use Rattle.std.specs.Ordering.{nat_cmp}
use Rattle.std.specs.Prelude.{⊤}
use Rattle.std.specs.declared.cmp.Ordering.TheVariants.{Less}
use Rattle.std.proofs.Common.{All, ◌≡◌, ◌∙◌, ℕ, ◌<◌, Bool, true, false, cond, eqb, Option, Some, None, List, [], ◌∷◌, map, ap, refl, sym, subst, arith, inl, inr}
use Rattle.std.proofs.lemmas.Bool.{cases_lt, eqb-true}
use Rattle.std.proofs.lemmas.Bool.Decides.{nat_tests}
use Rattle.std.proofs.lemmas.List.Elements.{All-from_recursion}
use Rattle.std.proofs.lemmas.Map.Keys.{IsStrictlyIncreasing-from_sorted}
use Rattle.seat_history.specs.Contents.{set_at}
use Rattle.seat_history.specs.History.{object_from}
use Rattle.seat_history.specs.Key.{key_number}
use Rattle.seat_history.specs.Object.{Object, blank_object, object_after}
use Rattle.seat_history.specs.Pairs.{ArePairsOf, IsPairInRange, Pairs, value_in}
use Rattle.seat_history.specs.Step.{is_value, values_after}
use Rattle.seat_history.specs.declared.call.Call.{Call}
use Rattle.seat_history.specs.declared.call.Call.TheVariants.{Load, Store, Swap, Hold, Look, Release, Find, Insert, Replace, Remove}
use Rattle.seat_history.specs.declared.entry.Entry.{Entry}
use Rattle.seat_history.specs.declared.key.KeyWords.{KeyWords}
use Rattle.seat_history.proofs.SamePairs.{AreAbove, Rise, above_lower, none_below}

-- a pair that is set, or none where one is taken out
abbrev front : Option (KeyWords × List ℕ) → Pairs → Pairs
front None pairs = pairs
front (Some pair) pairs = pair ∷ pairs

abbrev value_of : Option (KeyWords × List ℕ) → Option (List ℕ)
value_of None = None
value_of (Some pair) = Some pair.1

-- the pair, if any, has this number
abbrev IsAt : ℕ → Option (KeyWords × List ℕ) → Type 0
IsAt n None = ⊤
IsAt n (Some pair) = (key_number pair.0 ≡ n) × IsPairInRange pair

-- the new pairs are the old ones with this value at n, and above what those and n are above
record IsSet (n : ℕ) (value : Option (List ℕ)) (old new : Pairs) : Type 0 where
  rise : Rise new
  in_range : AllByRecursion IsPairInRange new
  whole : (k : ℕ) → value_in new k ≡ set_at (value_in old) n value k
  above : (m : ℕ) → m < n → AreAbove m old → AreAbove m new

none_here : (b : Bool) (x : Option (List ℕ)) → (b ≡ true → x ≡ None) → x ≡ cond b None x
none_here true x h = h refl
none_here false x h = refl

kept_behind : (b : Bool) (x y z : Option (List ℕ)) → cond b x z ≡ cond b x (cond b y z)
kept_behind true x y z = refl
kept_behind false x y z = refl

exchanged : (a b : Bool) (x y z : Option (List ℕ)) → (a ≡ true → b ≡ true → ⊥) → cond a x (cond b y z) ≡ cond b y (cond a x z)
exchanged true true x y z apart = absurd (apart refl refl)
exchanged true false x y z apart = refl
exchanged false b x y z apart = refl

-- before pairs that are all above
set_in_front : (n : ℕ) (new : Option (KeyWords × List ℕ)) (pairs : Pairs) → IsAt n new → Rise pairs
    → AllByRecursion IsPairInRange pairs → AreAbove n pairs → IsSet n (value_of new) pairs (front new pairs)
set_in_front n None pairs at rise in_range above = record {
  rise = rise;
  in_range = in_range;
  whole = λ k. none_here (eqb n k) (value_in pairs k) (λ same. ap (value_in pairs) (sym (eqb-true n k same)) ∙ none_below n pairs above);
  above = λ m lower h. h;
}
set_in_front n (Some pair) pairs at rise in_range above = record {
  rise = (subst (λ m. AreAbove m pairs) (sym at.0) above, rise);
  in_range = (at.1, in_range);
  whole = λ k. ap (λ m. cond (eqb m k) (Some pair.1) (value_in pairs k)) at.0;
  above = λ m lower h. (subst (λ p. m < p) (sym at.0) lower, h);
}

-- the same pairs, with other old ones
set_over : (n : ℕ) (value : Option (List ℕ)) (old other new : Pairs) → IsSet n value old new → ((k : ℕ) → set_at (value_in old) n value k ≡ set_at (value_in other) n value k)
    → ((m : ℕ) → m < n → AreAbove m other → AreAbove m old) → IsSet n value other new
set_over n value old other new is same above = record {
  rise = is.rise;
  in_range = is.in_range;
  whole = λ k. is.whole k ∙ same k;
  above = λ m lower h. is.above m lower (above m lower h);
}

set_pairs : (n : ℕ) (new : Option (KeyWords × List ℕ)) (pairs : Pairs) → IsAt n new → Rise pairs → AllByRecursion IsPairInRange pairs → (after : Pairs) × IsSet n (value_of new) pairs after
set_pairs n new [] at rise in_range = (front new [], set_in_front n new [] at tt tt tt)
set_pairs n new (pair ∷ pairs) at rise in_range =
    let rest = set_pairs n new pairs at rise.1 in_range.1 in
    elim (cases_lt n (key_number pair.0)) [
      | inl lower ↦ (front new (pair ∷ pairs), set_in_front n new (pair ∷ pairs) at rise in_range (lower, above_lower n (key_number pair.0) pairs lower rise.0))
      | inr other ↦ elim (cases_lt (key_number pair.0) n) [
        | inl before ↦ (pair ∷ rest.0, behind rest.0 rest.1 before)
        | inr not_before ↦ (front new pairs, here (omega arith))
      ]
    ]
  where
    behind : (after : Pairs) → IsSet n (value_of new) pairs after → key_number pair.0 < n → IsSet n (value_of new) (pair ∷ pairs) (pair ∷ after)
    behind after is before = record {
      rise = (is.above (key_number pair.0) before rise.0, is.rise);
      in_range = (in_range.0, is.in_range);
      whole = λ k. ap (λ x. cond (eqb (key_number pair.0) k) (Some pair.1) x) (is.whole k)
          ∙ exchanged (eqb (key_number pair.0) k) (eqb n k) (Some pair.1) (value_of new) (value_in pairs k)
          (λ one other. let first = eqb-true (key_number pair.0) k one in let second = eqb-true n k other in omega arith);
      above = λ m lower h. (h.0, is.above m lower h.1);
    }

    here : key_number pair.0 ≡ n → IsSet n (value_of new) (pair ∷ pairs) (front new pairs)
    here same = set_over n (value_of new) pairs (pair ∷ pairs) (front new pairs) (set_in_front n new pairs at rise.1 in_range.1 (subst (λ m. AreAbove m pairs) same rise.0))
        (λ k. kept_behind (eqb n k) (value_of new) (Some pair.1) (value_in pairs k) ∙ ap (λ m. cond (eqb n k) (value_of new) (cond (eqb m k) (Some pair.1) (value_in pairs k))) (sym same))
        (λ m lower h. h.1)

-- the values have pairs
record Have (values : ℕ → Option (List ℕ)) (pairs : Pairs) : Type 0 where
  rise : Rise pairs
  in_range : AllByRecursion IsPairInRange pairs
  whole : (k : ℕ) → value_in pairs k ≡ values k

abbrev HavePairs : (ℕ → Option (List ℕ)) → Type 0
HavePairs values = (pairs : Pairs) × Have values pairs

have_set : (values : ℕ → Option (List ℕ)) (n : ℕ) (new : Option (KeyWords × List ℕ)) → IsAt n new → HavePairs values → HavePairs (set_at values n (value_of new))
have_set values n new at (pairs, have) =
    let after = set_pairs n new pairs at have.rise have.in_range in
    (after.0, record { rise = after.1.rise; in_range = after.1.in_range; whole = λ k. after.1.whole k ∙ ap (λ x. cond (eqb n k) (value_of new) x) (have.whole k) })

have_unless : (there : Option (List ℕ)) (values set : ℕ → Option (List ℕ)) → HavePairs values → HavePairs set → HavePairs (option_map_or (λ _. values) there set)
have_unless None values set old new = new
have_unless (Some value) values set old new = old

have_either : (b : Bool) (set values : ℕ → Option (List ℕ)) → HavePairs set → HavePairs values → HavePairs (cond b set values)
have_either true set values new old = new
have_either false set values new old = old

-- the pair that the call may add has words of 64 bits
abbrev pub AddsInRange : Call → Type 0
AddsInRange (Insert key val) = IsPairInRange (key, val)
AddsInRange (Replace key old new) = IsPairInRange (key, new)
AddsInRange _ = ⊤

have_after : (values : ℕ → Option (List ℕ)) (call : Call) → AddsInRange call → HavePairs values → HavePairs (values_after values call)
have_after values (Insert key val) in_range old =
    have_unless (values (key_number key)) values (set_at values (key_number key) (Some val)) old (have_set values (key_number key) (Some (key, val)) (refl, in_range) old)
have_after values (Replace key before new) in_range old =
    have_either (is_value (values (key_number key)) before) (set_at values (key_number key) (Some new)) values (have_set values (key_number key) (Some (key, new)) (refl, in_range) old) old
have_after values (Remove key) in_range old = have_set values (key_number key) None tt old
have_after values (Load reg) in_range old = old
have_after values (Store reg new) in_range old = old
have_after values (Swap reg before new) in_range old = old
have_after values (Hold reg) in_range old = old
have_after values Look in_range old = old
have_after values Release in_range old = old
have_after values (Find key) in_range old = old

have_from : (object : Object) (entries : List Entry) → AllByRecursion (λ (entry : Entry). AddsInRange entry.call) entries
    → HavePairs object.contents.values → HavePairs (object_from object entries).contents.values
have_from object [] in_range old = old
have_from object (entry ∷ entries) in_range old = have_from (object_after object entry) entries in_range.1 (have_after object.contents.values entry.call in_range.0 old)

greater : (m n : ℕ) → m < n → nat_cmp m n ≡ Less
greater m n lower = grind (arith, nat_tests)

sorted_from_above : (n : ℕ) (pairs : Pairs) → AreAbove n pairs → AllByRecursion (λ m. nat_cmp n m ≡ Less) (map key_number (keys_of pairs))
sorted_from_above n [] h = tt
sorted_from_above n (pair ∷ pairs) h = (greater n (key_number pair.0) h.0, sorted_from_above n pairs h.1)

pub sorted_from_rise : (pairs : Pairs) → Rise pairs → IsStrictlySortedBy nat_cmp (map key_number (keys_of pairs))
unfolding IsStrictlySortedBy
sorted_from_rise [] h = tt
sorted_from_rise (pair ∷ pairs) h = (sorted_from_above (key_number pair.0) pairs h.0, sorted_from_rise pairs h.1)

-- what calls leave of the blank object has pairs
pub some_pairs : (entries : List Entry) → AllByRecursion (λ (entry : Entry). AddsInRange entry.call) entries
    → (pairs : Pairs) × ArePairsOf (object_from blank_object entries).contents.values pairs × All IsPairInRange pairs
some_pairs entries in_range =
    let have = have_from blank_object entries in_range ([], record { rise = tt; in_range = tt; whole = λ k. refl }) in
    (have.0, record { rising = IsStrictlyIncreasing-from_sorted _ (sorted_from_rise have.0 have.1.rise); whole = have.1.whole }, All-from_recursion IsPairInRange have.0 have.1.in_range)
