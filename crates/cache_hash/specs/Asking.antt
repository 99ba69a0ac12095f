-- What is asked of a key's pair, what a turn decides, and how the call ends.
use Rattle.std.specs.Prelude.{◌≡◌, ⊤, ℕ, ◌&&◌, Bool, true, false, not, is_none, is_some, if◌then◌else◌, List, Option, Some, None, length}
use Rattle.std.specs.Option.{option_map_or}
use Rattle.big_atomic.specs.Calls.{IsQuiet}
use Rattle.big_atomic.specs.Turns.{exchanges, scan_loads}
use Rattle.cache_hash.specs.Calls.{IsChangeAmong, value_at}
use Rattle.cache_hash.specs.declared.answers.Insert.{Insert as InsertAnswer}
use Rattle.cache_hash.specs.declared.answers.Insert.TheVariants.{Done as InsertDone, Present as InsertPresent, Full as InsertFull}
use Rattle.cache_hash.specs.declared.answers.Remove.{Remove as RemoveAnswer}
use Rattle.cache_hash.specs.declared.answers.Remove.TheVariants.{Gone as RemoveGone, Absent as RemoveAbsent, Full as RemoveFull}
use Rattle.cache_hash.specs.declared.answers.Replace.{Replace as ReplaceAnswer}
use Rattle.cache_hash.specs.declared.answers.Replace.TheVariants.{Yes as ReplaceYes, Found as ReplaceFound, Absent as ReplaceAbsent, Full as ReplaceFull}
use Rattle.cache_hash.specs.declared.answers.Update.{Update as UpdateAnswer}
use Rattle.cache_hash.specs.declared.answers.Update.TheVariants.{Done as UpdateDone, Full as UpdateFull}
use Rattle.cache_hash.specs.declared.asked.Change.{Change}
use Rattle.cache_hash.specs.declared.asked.Change.TheVariants.{Insert, Replace, Remove}
use Rattle.cache_hash.specs.declared.asked.Decision.{Decision}
use Rattle.cache_hash.specs.declared.asked.Decision.TheVariants.{Stays, Changes}
use Rattle.cache_hash.specs.declared.asked.Told.{Told}
use Rattle.cache_hash.specs.declared.asked.Told.TheVariants.{Plain, Full}
use Rattle.chain_links.specs.declared.answers.Edit.{Edit}
use Rattle.chain_links.specs.declared.answers.Edit.TheVariants.{Insert as InsertEdit, Replace as ReplaceEdit, Remove as RemoveEdit}
use Rattle.seat_history.specs.Key.{key_number}
use Rattle.seat_history.specs.Step.{is_same, is_value, replace_reply}
use Rattle.seat_history.specs.declared.call.Call.{Call}
use Rattle.seat_history.specs.declared.call.Call.TheVariants.{Insert as InsertCall, Replace as ReplaceCall, Remove as RemoveCall}
use Rattle.seat_history.specs.declared.key.KeyWords.{KeyWords}
use Rattle.seat_history.specs.declared.reply.Reply.{Reply}
use Rattle.seat_history.specs.declared.reply.Reply.TheVariants.{Absent, Done, Full as FullReply, Gone, Present}
use Rattle.seat_history.specs.declared.words.TheConstants.{VALUE_WIDTH}
use Rattle.step_rules.specs.History.{AreWords}
use Rattle.step_rules.specs.Lawful.{is_full}
use Rattle.step_rules.specs.Records.{edit_of, need, place_in}
use Rattle.step_rules.specs.SeatData.{SeatData}

-- the call that is asked for
abbrev pub call_for : KeyWords → Change → Call
call_for key (Insert val) = InsertCall key val
call_for key (Replace old new) = ReplaceCall key old new
call_for key Remove = RemoveCall key

-- the reply where the key has this value
abbrev pub plain_reply : Change → Option (List ℕ) → Reply
plain_reply (Insert val) there = option_map_or Present there Done
plain_reply (Replace old new) there = replace_reply there old
plain_reply Remove there = option_map_or Gone there Absent

-- the object changes where the key has this value
abbrev pub would_change : Change → Option (List ℕ) → Bool
would_change (Insert val) there = is_none there
would_change (Replace old new) there = is_value there old && not (is_same old new)
would_change Remove there = is_some there

-- the reply of a call that ends so
abbrev pub told_reply : Change → Told → Reply
told_reply change (Plain there) = plain_reply change there
told_reply change (Full needed free) = FullReply needed free

-- it changes the object
abbrev pub told_change : Change → Told → Bool
told_change change (Plain there) = would_change change there
told_change change (Full needed free) = false

-- the edit of a chain with these records that the change is
abbrev pub IsEditOf : KeyWords → Change → List (List ℕ) → Edit → Type 0
IsEditOf key change rs (InsertEdit other val) = call_for key change ≡ InsertCall other val
IsEditOf key change rs (ReplaceEdit at val) = (place_in rs (key_number key) ≡ at) × ((old : List ℕ) × (call_for key change ≡ ReplaceCall key old val))
IsEditOf key change rs (RemoveEdit at) = (place_in rs (key_number key) ≡ at) × (call_for key change ≡ RemoveCall key)

-- what is decided where the key has this value, in a bucket with these records
abbrev pub Decides : KeyWords → Change → Option (List ℕ) → List (List ℕ) → Decision → Type 0
Decides key change found rs (Stays there) = (there ≡ found) × (would_change change found ≡ false)
Decides key change found rs (Changes due) = (due.there ≡ found) × (would_change change found ≡ true)
    × (due.need ≡ need (length rs) (edit_of rs (call_for key change))) × IsEditOf key change rs due.edit

-- the key's value at the call's place, where the call's end tells it
abbrev pub HasValue : Told → Option (List ℕ) → Type 0
HasValue (Plain there) found = found ≡ there
HasValue (Full needed free) found = ⊤

-- the call never changes an object
abbrev pub NeverChanges : Change → Type 0
NeverChanges change = (there : Option (List ℕ)) → would_change change there ≡ false

-- none of these does, whatever the key's value
abbrev pub NoneChanges : (Option (List ℕ) → Change → Type 0) → Type 0
NoneChanges among = (there : Option (List ℕ)) (change : Change) → among there change → NeverChanges change

-- the call is an insert, whose copy is never given up
abbrev pub IsInsert : Call → Type 0
IsInsert (InsertCall key val) = ⊤
IsInsert _ = ⊥

-- each of these is
abbrev pub AreInserts : KeyWords → (Option (List ℕ) → Change → Type 0) → Type 0
AreInserts key among = (there : Option (List ℕ)) (change : Change) → among there change → IsInsert (call_for key change)

-- it is this change, whatever the key's value
abbrev pub Only : Change → Option (List ℕ) → Change → Type 0
Only change there other = other ≡ change

-- the call asks for a change that these are to be at some value of the key
abbrev pub AsksFor : KeyWords → (Option (List ℕ) → Change → Type 0) → Call → Type 0
AsksFor key among call = (there : Option (List ℕ)) × (change : Change) × among there change × (call ≡ call_for key change)

-- a call that is to make these changes, each at a value of the key, has ended by this one, which is one for the key's value at the call's place
pub record HasEnded (key : KeyWords) (among : Option (List ℕ) → Change → Type 0) (change : Change) (told : Told) (before after : SeatData) : Type 0 where
  pub ends : IsChangeAmong (AsksFor key among) (call_for key change) (told_reply change told) (told_change change told) before after
  pub value : HasValue told (value_at after.view ends.answered.stand.place key)
  pub asked : among (value_at after.view ends.answered.stand.place key) change
  -- a call that never changes an object makes no exchange and no scan
  pub never : NoneChanges among → (exchanges ends.answered.steps ≡ 0) × (scan_loads ends.answered.steps ≡ 0)
  -- an insert that isn't Full and tries no exchange makes no scan, and leaves all nodes alone
  pub quiet : AreInserts key among → is_full (told_reply change told) ≡ false → exchanges ends.answered.steps ≡ 0 → IsQuiet ends.answered.steps before after

-- the change by which a key that has this value gets another
abbrev pub put_change : Option (List ℕ) → List ℕ → Change
put_change None val = Insert val
put_change (Some old) val = Replace old val

-- where it has this value, the change is the one by which it gets a value that f gives for that
pub record Puts (gives : Option (List ℕ) → List ℕ → Type 0) (there : Option (List ℕ)) (change : Change) : Type 0 where
  pub val : List ℕ
  pub in_range : AreWords VALUE_WIDTH val
  pub given : gives there val
  pub change_is : change ≡ put_change there val

-- what an update answers at such an end
abbrev pub update_answer : Told → UpdateAnswer
update_answer (Plain there) = UpdateDone there
update_answer (Full needed free) = UpdateFull needed free

-- what an insert answers at such an end
abbrev pub insert_answer : Told → InsertAnswer
insert_answer (Plain None) = InsertDone
insert_answer (Plain (Some val)) = InsertPresent val
insert_answer (Full needed free) = InsertFull needed free

-- what a replace of the old value answers
abbrev pub replace_answer : List ℕ → Told → ReplaceAnswer
replace_answer old (Plain None) = ReplaceAbsent
replace_answer old (Plain (Some val)) = if is_same val old then ReplaceYes else ReplaceFound val
replace_answer old (Full needed free) = ReplaceFull needed free

-- what a remove answers
abbrev pub remove_answer : Told → RemoveAnswer
remove_answer (Plain None) = RemoveAbsent
remove_answer (Plain (Some val)) = RemoveGone val
remove_answer (Full needed free) = RemoveFull needed free
