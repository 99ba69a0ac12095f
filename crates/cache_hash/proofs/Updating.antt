-- What the end of an update says of its answer.
use Rattle.std.proofs.Common.{◌≡◌, ℕ, ◌&&◌, Bool, cond, not, List, Option, None, Some, refl, sym, subst, arith}
use Rattle.cache_hash.proofs.Ended.{change_as, keeps_removes}
use Rattle.cache_hash.specs.Asking.{AsksFor, HasEnded, Puts, call_for, put_change, update_answer}
use Rattle.cache_hash.specs.Calls.{IsChangeAmong, IsUpdateBy, IsUpdated, value_at}
use Rattle.cache_hash.specs.Changing.{MayAsk}
use Rattle.cache_hash.specs.declared.answers.Update.{Update as UpdateAnswer}
use Rattle.cache_hash.specs.declared.answers.Update.TheVariants.{Done as UpdateDone, Full as UpdateFull}
use Rattle.cache_hash.specs.declared.asked.Change.{Change}
use Rattle.cache_hash.specs.declared.asked.Change.TheVariants.{Replace}
use Rattle.cache_hash.specs.declared.asked.Told.{Told}
use Rattle.cache_hash.specs.declared.asked.Told.TheVariants.{Full, Plain}
use Rattle.seat_history.proofs.Changed.{same_from_words}
use Rattle.seat_history.specs.Step.{is_same}
use Rattle.seat_history.specs.declared.call.Call.{Call}
use Rattle.seat_history.specs.declared.reply.Reply.{Reply}
use Rattle.seat_history.specs.declared.reply.Reply.TheVariants.{Found as FoundReply, Yes}
use Rattle.seat_history.specs.declared.key.KeyWords.{KeyWords}
use Rattle.seat_history.specs.declared.words.TheConstants.{VALUE_WIDTH}
use Rattle.step_rules.specs.History.{AreWords, IsKey}
use Rattle.step_rules.specs.SeatData.{SeatData}

-- the call of an update's change
update_by : (key : KeyWords) (gives : Option (List ℕ) → List ℕ → Type 0) (there : Option (List ℕ)) (change : Change) → Puts gives there change
    → IsUpdateBy key gives (call_for key change)
update_by key gives None change p = subst (λ (c : Change). IsUpdateBy key gives (call_for key c)) (sym p.change_is) (refl, p.given)
update_by key gives (Some old) change p = subst (λ (c : Change). IsUpdateBy key gives (call_for key c)) (sym p.change_is) (refl, p.given)

abbrev as_update : (key : KeyWords) (gives : Option (List ℕ) → List ℕ → Type 0) {before after : SeatData} {call : Call} {reply : Reply} {changed : Bool}
    → IsChangeAmong (AsksFor key (Puts gives)) call reply changed before after → IsChangeAmong (IsUpdateBy key gives) call reply changed before after
as_update key gives h = change_as (λ other asks. subst (IsUpdateBy key gives) (sym asks.3) (update_by key gives asks.0 asks.1 asks.2)) h

module _ {key : KeyWords} {gives : Option (List ℕ) → List ℕ → Type 0} {before after : SeatData} where
  done : (there : Option (List ℕ)) (val : List ℕ) → AreWords VALUE_WIDTH val → gives there val → HasEnded key (Puts gives) (put_change there val) (Plain there) before after
      → IsUpdated key gives (UpdateDone there) before after
  done None val words given h = record {
    found = None;
    val = val;
    given = given;
    in_range = words;
    change = as_update key gives h.ends;
    there = h.value;
    answers = refl;
    removes = keeps_removes refl h.ends;
  }
  done (Some old) val words given h =
      let ends : (e : IsChangeAmong (AsksFor key (Puts gives)) (call_for key (Replace old val)) Yes (not (is_same old val)) before after)
      × (value_at after.view e.answered.stand.place key ≡ Some old) =
      subst
      (λ t. (e : IsChangeAmong (AsksFor key (Puts gives)) (call_for key (Replace old val)) (cond t Yes (FoundReply old)) (t && not (is_same old val)) before after)
      × (value_at after.view e.answered.stand.place key ≡ Some old)) (same_from_words old old refl) (h.ends, h.value) in record {
        found = Some old;
        val = val;
        given = given;
        in_range = words;
        change = as_update key gives ends.0;
        there = ends.1;
        answers = refl;
        removes = keeps_removes refl ends.0;
      }

  full : (there : Option (List ℕ)) (val : List ℕ) (needed free : ℕ) → AreWords VALUE_WIDTH val → gives there val
      → (h : HasEnded key (Puts gives) (put_change there val) (Full needed free) before after) → value_at after.view h.ends.answered.stand.place key ≡ there
      → IsUpdated key gives (UpdateFull needed free) before after
  full None val needed free words given h is = record {
    found = None;
    val = val;
    given = given;
    in_range = words;
    change = as_update key gives h.ends;
    there = is;
    answers = tt;
    removes = keeps_removes refl h.ends;
  }
  full (Some old) val needed free words given h is = record {
    found = Some old;
    val = val;
    given = given;
    in_range = words;
    change = as_update key gives h.ends;
    there = is;
    answers = tt;
    removes = keeps_removes refl h.ends;
  }

  -- by the change that is one for the value there
  ended : (told : Told) (change : Change) → HasEnded key (Puts gives) change told before after → IsUpdated key gives (update_answer told) before after
  ended (Plain there) change h =
      let p : Puts gives there change = subst (λ (o : Option (List ℕ)). Puts gives o change) h.value h.asked in
      done there p.val p.in_range p.given (subst (λ (c : Change). HasEnded key (Puts gives) c (Plain there) before after) p.change_is h)
  ended (Full needed free) change h =
      let there : Option (List ℕ) = value_at after.view h.ends.answered.stand.place key in
      let p : Puts gives there change = h.asked in
      let both : (e : HasEnded key (Puts gives) (put_change there p.val) (Full needed free) before after) × (value_at after.view e.ends.answered.stand.place key ≡ there) =
      subst (λ (c : Change). (e : HasEnded key (Puts gives) c (Full needed free) before after) × (value_at after.view e.ends.answered.stand.place key ≡ there)) p.change_is (h, refl) in
      full there p.val needed free p.in_range p.given both.0 both.1

pub updated : {key : KeyWords} {gives : Option (List ℕ) → List ℕ → Type 0} {change : Change} {before old after : SeatData} (told : Told) {answer : UpdateAnswer}
    → answer ≡ update_answer told → before ≡ old → HasEnded key (Puts gives) change told before after → IsUpdated key gives answer old after
updated {key} {gives} {change} {before} {old} {after} told {answer} is began h =
    subst (λ (z : UpdateAnswer × SeatData). IsUpdated key gives z.0 z.1 after) (λ j. (sym is j, began j)) (ended told change h)

-- THE CHANGE OF A TURN
pub may_put : {key : KeyWords} {change : Change} {before : SeatData} (there : Option (List ℕ)) (val : List ℕ) → IsKey key → change ≡ put_change there val → AreWords VALUE_WIDTH val
    → MayAsk key change before
may_put {key} {before = before} None val in_range is words = subst (λ (c : Change). MayAsk key c before) (sym is) (record { removes = omega arith; wide = (in_range, words) })
may_put {key} {before = before} (Some old) val in_range is words =
    subst (λ (c : Change). MayAsk key c before) (sym is) (record { removes = omega arith; wide = (in_range, words) })
