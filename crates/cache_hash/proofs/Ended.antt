-- What the end of a call says of its answer.
use Rattle.std.proofs.Common.{◌≡◌, ◌∙◌, ℕ, ◌+◌, ◌≤◌, Bool, true, false, ◌&&◌, not, is_none, cond, List, [], ◌∷◌, Option, None, Some, refl, sym, ap, subst, arith}
use Rattle.std.proofs.Common.{inl, inr, ⊎_elim}
use Rattle.std.proofs.lemmas.Bool.{and_parts, and_right, false≢true}
use Rattle.big_atomic.specs.Turns.{exchanges, scan_loads}
use Rattle.cache_hash.proofs.Progress.{wants_as}
use Rattle.cache_hash.specs.Asking.{AreInserts, AsksFor, HasEnded, IsInsert, NeverChanges, Only, call_for, insert_answer, remove_answer, replace_answer}
use Rattle.cache_hash.specs.Calls.{IsChangeAmong, IsInserted, IsKeyChange, IsRemoved, IsReplaced, value_at}
use Rattle.cache_hash.specs.declared.answers.Replace.TheVariants.{Yes as ReplaceYes, Found as ReplaceFound}
use Rattle.cache_hash.specs.declared.asked.Change.{Change}
use Rattle.cache_hash.specs.declared.asked.Change.TheVariants.{Insert, Replace, Remove}
use Rattle.cache_hash.specs.declared.asked.Told.{Told}
use Rattle.cache_hash.specs.declared.asked.Told.TheVariants.{Full, Plain}
use Rattle.seat_history.proofs.Changed.{same_from_words, words_from_same}
use Rattle.seat_history.specs.Step.{is_same, is_value}
use Rattle.seat_history.specs.declared.call.Call.{Call}
use Rattle.seat_history.specs.declared.call.Call.TheVariants.{Insert as InsertCall, Replace as ReplaceCall, Remove as RemoveCall}
use Rattle.seat_history.specs.declared.key.KeyWords.{KeyWords}
use Rattle.seat_history.specs.declared.reply.Reply.{Reply}
use Rattle.seat_history.specs.declared.reply.Reply.TheVariants.{Found as FoundReply, Yes}
use Rattle.step_rules.specs.Order.{Needs}
use Rattle.step_rules.specs.Records.{removes_of}
use Rattle.step_rules.specs.SeatData.{SeatData}
use Rattle.step_rules.specs.Stock.{stand_removes}
use Rattle.step_rules.specs.declared.view.Stand.{Stand}

-- AMONG WHICH CALLS it was one
abbrev pub change_as : {due later : Call → Type 0} {call : Call} {reply : Reply} {changed : Bool} {before after : SeatData} → ((other : Call) → due other → later other)
    → IsChangeAmong due call reply changed before after → IsChangeAmong later call reply changed before after
change_as into h = record {
  answered = h.answered;
  changes = h.changes;
  hold = h.hold;
  scans = ⊎_elim (λ none. inl none) (λ some. inr (wants_as into some.0, some.1, some.2)) h.scans;
  kept = h.kept;
  full = h.full;
  short = h.short;
}

abbrev pub ended_as : {among later : Option (List ℕ) → Change → Type 0} {key : KeyWords} {change : Change} {told : Told} {before after : SeatData}
    → ((there : Option (List ℕ)) (other : Change) → among there other → later there other) → HasEnded key among change told before after → HasEnded key later change told before after
ended_as {key = key} {change = change} {after = after} into h = record {
  ends = change_as (λ call asks. (asks.0, asks.1, into asks.0 asks.1 asks.2, asks.3)) h.ends;
  value = h.value;
  asked = into (value_at after.view h.ends.answered.stand.place key) change h.asked;
  never = λ never. h.never (λ there other a. never there other (into there other a));
  quiet = λ all. h.quiet (λ there other a. all there other (into there other a));
}

-- of a call that was to make one change alone
pub ended_only : {key : KeyWords} {asked : Change} {told : Told} {before old now : SeatData} → before ≡ old → (made : Change) × HasEnded key (Only asked) made told before now
    → HasEnded key (Only asked) asked told old now
ended_only {key = key} {asked = asked} {told = told} {now = now} began h =
    subst (λ (z : Change × SeatData). HasEnded key (Only asked) z.0 told z.1 now) (λ j. (h.1.asked j, began j)) h.1

-- only that one
abbrev only : {key : KeyWords} {change : Change} {reply : Reply} {changed : Bool} {before after : SeatData}
    → IsChangeAmong (AsksFor key (Only change)) (call_for key change) reply changed before after → IsKeyChange (call_for key change) reply changed before after
only {key = key} h = change_as (λ other asks. asks.3 ∙ ap (call_for key) asks.2) h

-- THE REMOVES that a call spends
none_spent : (call : Call) (s : Stand) → s.call ≡ call → removes_of call ≡ 0 → stand_removes s ≡ 0
none_spent call s is none = by_test s.changes
  where
    by_test : (b : Bool) → cond b (removes_of s.call) 0 ≡ 0
    by_test true = ap removes_of is ∙ none
    by_test false = refl

pub keeps_removes : {due : Call → Type 0} {call : Call} {reply : Reply} {changed : Bool} {before after : SeatData} → removes_of call ≡ 0
    → (h : IsChangeAmong due call reply changed before after) → after.view.removes ≡ before.view.removes
keeps_removes {call} none h =
    let a = h.answered in
    let left = a.stood.removes in
    let none_spent_now = none_spent call a.stand a.stood.call none in omega arith

-- INSERTS
need_few : (rs : List (List ℕ)) (key : KeyWords) (val : List ℕ) (count : ℕ) → Needs rs (InsertCall key val) count → count ≤ 2
need_few [] key val count n = let one = n.0 refl in omega arith
need_few (r ∷ rs) key val count n = let two : count ≡ 2 = n.1 (λ e. absurd cc) in omega arith

none_is : (o : Option (List ℕ)) → is_none o ≡ true → o ≡ None
none_is None e = refl
none_is (Some val) e = absurd (false≢true e)

all_inserts : (key : KeyWords) (val : List ℕ) → AreInserts key (Only (Insert val))
all_inserts key val there change is = subst (λ (c : Change). IsInsert (call_for key c)) (sym is) tt

pub inserted : {key : KeyWords} {val : List ℕ} {before after : SeatData} (told : Told) → HasEnded key (Only (Insert val)) (Insert val) told before after
    → IsInserted key val (insert_answer told) before after
inserted {key} {val} (Plain None) h = record {
  change = only {change = Insert val} h.ends;
  there = h.value;
  quiet = h.quiet (all_inserts key val);
  removes = keeps_removes refl h.ends;
  enough = λ many count free e. absurd cc;
}
inserted {key} {val} {before} {after} (Plain (Some there)) h = record {
  change = only {change = Insert val} h.ends;
  there = h.value;
  quiet = h.quiet (all_inserts key val);
  removes = keeps_removes refl h.ends;
  enough = λ many count free e. absurd cc;
}
inserted {key} {val} {before} {after} (Full needed free) h = record {
  change = only {change = Insert val} h.ends;
  there = let f = h.ends.full needed free refl in none_is (value_at after.view h.ends.answered.stand.place key) f.1.changes;
  quiet = h.quiet (all_inserts key val);
  removes = keeps_removes refl h.ends;
  enough = λ many count other e.
      let f = h.ends.full needed free refl in
      let short = h.ends.short needed free refl in
      let few = need_few _ key val needed f.1.needs in absurd (omega arith);
}

-- REPLACES
value_is : (o : Option (List ℕ)) (old : List ℕ) (t : Bool) → (is_value o old && t) ≡ true → o ≡ Some old
value_is None old t e = absurd (false≢true e)
value_is (Some val) old t e = ap (λ (l : List ℕ). Some l) (words_from_same val old (and_parts (is_same val old) t e).0)

-- where the two values are the same nothing ever changes
same_never : (old new : List ℕ) → old ≡ new → NeverChanges (Replace old new)
same_never old new same there =
    ap (λ (b : Bool). is_value there old && not b) (same_from_words old new same) ∙ and_right (is_value there old) false refl

module _ {key : KeyWords} {old new : List ℕ} {before after : SeatData} where
  by_value : (val : List ℕ) (b : Bool) → is_same val old ≡ b → (h : IsKeyChange (ReplaceCall key old new) (cond b Yes (FoundReply val)) (b && not (is_same old new)) before after)
      → value_at after.view h.answered.stand.place key ≡ Some val
      → (old ≡ new → (exchanges h.answered.steps ≡ 0) × (scan_loads h.answered.steps ≡ 0)) → IsReplaced key old new (cond b ReplaceYes (ReplaceFound val)) before after
  by_value val true e h value same = record {
    change = h;
    there = value ∙ ap (λ (l : List ℕ). Some l) (words_from_same val old e);
    unlike = λ other is. absurd cc;
    same = same;
    removes = keeps_removes refl h;
  }
  by_value val false e h value same = record {
    change = h;
    there = value;
    unlike = λ other is like.
        let same_val : val ≡ other = cc in false≢true (sym e ∙ same_from_words val old (same_val ∙ like));
    same = same;
    removes = keeps_removes refl h;
  }

  pub replaced : (told : Told) → HasEnded key (Only (Replace old new)) (Replace old new) told before after → IsReplaced key old new (replace_answer old told) before after
  replaced (Plain None) h = record {
    change = only {change = Replace old new} h.ends;
    there = h.value;
    unlike = λ other is. absurd cc;
    same = λ same. h.never (λ there change is. subst NeverChanges (sym is) (same_never old new same));
    removes = keeps_removes refl h.ends;
  }
  replaced (Plain (Some val)) h = by_value val (is_same val old) refl (only {change = Replace old new} h.ends) h.value
      (λ same. h.never (λ there change is. subst NeverChanges (sym is) (same_never old new same)))
  replaced (Full needed free) h = record {
    change = only {change = Replace old new} h.ends;
    there = let f = h.ends.full needed free refl in value_is (value_at after.view h.ends.answered.stand.place key) old (not (is_same old new)) f.1.changes;
    unlike = λ other is. absurd cc;
    same = λ same. h.never (λ there change is. subst NeverChanges (sym is) (same_never old new same));
    removes = keeps_removes refl h.ends;
  }

-- REMOVES
module _ {key : KeyWords} {before after : SeatData} where
  spends : {reply : Reply} {changed : Bool} (h : IsKeyChange (RemoveCall key) reply changed before after) → after.view.removes + (cond changed 1 0) ≡ before.view.removes
  spends {changed = changed} h =
      let a = h.answered in
      let is : stand_removes a.stand ≡ cond changed 1 0 = (λ i. cond (h.changes i) (removes_of (a.stood.call i)) 0) in
      ap (λ n. after.view.removes + n) (sym is) ∙ a.stood.removes

  pub removed : (told : Told) → HasEnded key (Only Remove) Remove told before after → IsRemoved key (remove_answer told) before after
  removed (Plain None) h = record { change = only {change = Remove} h.ends; there = h.value; removes = spends (only {change = Remove} h.ends) }
  removed (Plain (Some val)) h = record { change = only {change = Remove} h.ends; there = h.value; removes = spends (only {change = Remove} h.ends) }
  removed (Full needed free) h = record { change = only {change = Remove} h.ends; there = let f = h.ends.full needed free refl in f.1.changes; removes = spends (only {change = Remove} h.ends) }
