-- What the calls on keys promise.
use Rattle.std.specs.Prelude.{⊤, ◌≡◌, ◌≢◌, ◌⊎◌, ℕ, ◌+◌, ◌*◌, ◌<◌, ◌≤◌, Bool, true, false, not, is_some, if◌then◌else◌, List, Option, Some, None, length}
use Rattle.big_atomic.specs.Calls.{Answered, HoldStays, IsFullAnswer, IsQuiet, NodesStay}
use Rattle.big_atomic.specs.Reads.{ClaimsAreCaused, IsInlineRead}
use Rattle.big_atomic.specs.Turns.{claim_stores, exchanges, lost_steps, scan_loads}
use Rattle.cache_hash.specs.Firsts.{MissesFirst}
use Rattle.cache_hash.specs.declared.answers.Insert.{Insert as InsertAnswer}
use Rattle.cache_hash.specs.declared.answers.Insert.TheVariants.{Done as InsertDone, Present as InsertPresent, Full as InsertFull}
use Rattle.cache_hash.specs.declared.answers.Remove.{Remove as RemoveAnswer}
use Rattle.cache_hash.specs.declared.answers.Remove.TheVariants.{Gone as RemoveGone, Absent as RemoveAbsent, Full as RemoveFull}
use Rattle.cache_hash.specs.declared.answers.Replace.{Replace as ReplaceAnswer}
use Rattle.cache_hash.specs.declared.answers.Replace.TheVariants.{Yes as ReplaceYes, Found as ReplaceFound, Absent as ReplaceAbsent, Full as ReplaceFull}
use Rattle.cache_hash.specs.declared.answers.Update.{Update as UpdateAnswer}
use Rattle.cache_hash.specs.declared.answers.Update.TheVariants.{Done as UpdateDone, Full as UpdateFull}
use Rattle.seat_history.specs.Change.{is_change}
use Rattle.seat_history.specs.History.{state_at}
use Rattle.seat_history.specs.Key.{key_number}
use Rattle.seat_history.specs.Step.{is_same}
use Rattle.seat_history.specs.declared.call.Call.{Call}
use Rattle.seat_history.specs.declared.call.Call.TheVariants.{Find, Insert, Remove, Replace}
use Rattle.seat_history.specs.declared.key.KeyWords.{KeyWords}
use Rattle.seat_history.specs.declared.reply.Reply.{Reply}
use Rattle.seat_history.specs.declared.reply.Reply.TheVariants.{Absent, Done, Found, Full, Gone, Present, Val, Yes}
use Rattle.seat_history.specs.declared.words.TheConstants.{VALUE_WIDTH}
use Rattle.step_rules.specs.Bags.{times}
use Rattle.step_rules.specs.History.{AreWords, cell_of, key_cell}
use Rattle.step_rules.specs.Lawful.{is_full}
use Rattle.step_rules.specs.Order.{Needs}
use Rattle.step_rules.specs.Records.{found_at}
use Rattle.step_rules.specs.SeatData.{SeatData}
use Rattle.step_rules.specs.Views.{stock}
use Rattle.step_rules.specs.declared.view.View.{View}

-- the key's value at a place, as the seat has seen the history
abbrev pub value_at : View → ℕ → KeyWords → Option (List ℕ)
value_at v place key = (state_at v.seen place).values (key_number key)

-- what a find's answer says of its stand
abbrev pub find_reply : Option (List ℕ) → Reply
find_reply None = Absent
find_reply (Some val) = Val val

-- a find was answered
pub record IsFound (key : KeyWords) (found : Option (List ℕ)) (before after : SeatData) : Type 0 where
  pub answered : Answered (key_cell before.view.plan (key_number key)) (Find key) (find_reply found) before after
  pub nodes : NodesStay before after
  pub there : value_at after.view answered.stand.place key ≡ found
  pub quiet : IsQuiet answered.steps before after
  pub hold : HoldStays before after
  -- a claim is stored only where the call's steps before found an odd version, a marked backup, two versions that differ, or inline words that
  -- name a next link and another key
  pub caused : ClaimsAreCaused (MissesFirst (key_cell before.view.plan (key_number key)) key) answered.steps
  -- a find that stores none makes one read of the inline words and nothing else, and stands where it found the backup without a mark
  pub inline : claim_stores answered.steps ≡ 0 → (words : List ℕ) × IsInlineRead (key_cell before.view.plan (key_number key)) words answered.stand.place answered.steps

-- at this place the call would change its key's pair, and needs so many nodes by the order of the records in the key's bucket
pub record NeedsNodes (call : Call) (place need : ℕ) (v : View) : Type 0 where
  pub changes : is_change (state_at v.seen place) call ≡ true
  pub needs : Needs (found_at v.plan v.seen place call) call need

-- at a place from the first look on up to the last one fewer nodes were free than one of these calls needed
pub record WantsNodes (due : Call → Type 0) (look last : ℕ) (before : SeatData) (v : View) : Type 0 where
  pub call : Call
  pub is_due : due call
  pub place : ℕ
  pub late : look ≤ place
  pub within : place ≤ last
  pub need : ℕ
  pub needs : NeedsNodes call place need v
  pub few : length before.free < need

-- no node changed hands: the free ones are those that were free, in any order
pub record KeepsNodes (before after : SeatData) : Type 0 where
  pub free : (n : ℕ) → times n after.free ≡ times n before.free
  pub retired : after.view.retired ≡ before.view.retired

-- a call that changes its key's pair, or leaves the object as it is, was answered; so far it may have been to make any of these
pub record IsChangeAmong (due : Call → Type 0) (call : Call) (reply : Reply) (changed : Bool) (before after : SeatData) : Type 0 where
  pub answered : Answered (cell_of before.view.plan call) call reply before after
  pub changes : answered.stand.changes ≡ changed
  pub hold : HoldStays before after
  -- a scan was made at most once, and only for want of nodes at a place up to the stand's: then an exchange was tried, a step was lost, or the
  -- reply is Full
  pub scans : (scan_loads answered.steps ≡ 0)
      ⊎ (WantsNodes due answered.stood.look answered.stand.place before after.view × (scan_loads answered.steps ≡ 4 * before.view.plan.seats)
      × ((is_full reply ≡ true) ⊎ (0 < exchanges answered.steps + lost_steps answered.steps)))
  -- without an exchange and a scan no node changed hands
  pub kept : exchanges answered.steps ≡ 0 → scan_loads answered.steps ≡ 0 → KeepsNodes before after
  -- Full comes after a whole scan of this call, with what is needed at the stand's place
  pub full : (need free : ℕ) → reply ≡ Full need free → IsFullAnswer need free answered.steps before after × NeedsNodes call answered.stand.place need after.view
  -- and only to a seat that has fewer nodes than there are claim words and nodes needed
  pub short : (need free : ℕ) → reply ≡ Full need free → stock before.view < 4 * before.view.plan.seats + need

-- a call that was to be just this one from the first was answered
abbrev pub IsKeyChange : Call → Reply → Bool → SeatData → SeatData → Type 0
IsKeyChange call reply changed before after = IsChangeAmong (λ other. other ≡ call) call reply changed before after

-- what an insert's answer says of its stand
abbrev pub insert_reply : InsertAnswer → Reply
insert_reply InsertDone = Done
insert_reply (InsertPresent val) = Present val
insert_reply (InsertFull need free) = Full need free

-- the key's value at the stand's place
abbrev pub value_there : InsertAnswer → Option (List ℕ)
value_there (InsertPresent val) = Some val
value_there _ = None

-- a change stands there
abbrev pub is_done : InsertAnswer → Bool
is_done InsertDone = true
is_done _ = false

-- an insert was answered. The answer is by the key's value at the stand's place; Done comes with the change
pub record IsInserted (key : KeyWords) (val : List ℕ) (answer : InsertAnswer) (before after : SeatData) : Type 0 where
  pub change : IsKeyChange (Insert key val) (insert_reply answer) (is_done answer) before after
  pub there : value_at after.view change.answered.stand.place key ≡ value_there answer
  -- where it isn't Full and tried no exchange, it made no scan, and left the free nodes in their order
  pub quiet : is_full (insert_reply answer) ≡ false → exchanges change.answered.steps ≡ 0 → IsQuiet change.answered.steps before after
  pub removes : after.view.removes ≡ before.view.removes
  -- a seat that has two nodes more than there are claim words is never short of two
  pub enough : 4 * before.view.plan.seats + 1 < stock before.view → (need free : ℕ) → answer ≢ InsertFull need free

-- what a replace's answer says of its stand
abbrev pub replaced_reply : ReplaceAnswer → Reply
replaced_reply ReplaceYes = Yes
replaced_reply (ReplaceFound val) = Found val
replaced_reply ReplaceAbsent = Absent
replaced_reply (ReplaceFull need free) = Full need free

-- the key's value at the stand's place, where the old value is this
abbrev pub value_replaced : List ℕ → ReplaceAnswer → Option (List ℕ)
value_replaced old (ReplaceFound val) = Some val
value_replaced old ReplaceAbsent = None
value_replaced old _ = Some old

-- Yes comes with a change where the two values aren't the same
abbrev pub is_replaced : List ℕ → List ℕ → ReplaceAnswer → Bool
is_replaced old new ReplaceYes = not (is_same old new)
is_replaced old new _ = false

-- a replace was answered, by the key's value at the stand's place
pub record IsReplaced (key : KeyWords) (old new : List ℕ) (answer : ReplaceAnswer) (before after : SeatData) : Type 0 where
  pub change : IsKeyChange (Replace key old new) (replaced_reply answer) (is_replaced old new answer) before after
  pub there : value_at after.view change.answered.stand.place key ≡ value_replaced old answer
  pub unlike : (val : List ℕ) → answer ≡ ReplaceFound val → val ≢ old
  -- where the two values are the same no exchange and no scan is made, and so Full doesn't come
  pub same : old ≡ new → (exchanges change.answered.steps ≡ 0) × (scan_loads change.answered.steps ≡ 0)
  pub removes : after.view.removes ≡ before.view.removes

-- the call puts a value that f gives for what is there: it inserts what f gives for no value, or replaces a value by what f gives for it
abbrev pub IsUpdateBy : KeyWords → (Option (List ℕ) → List ℕ → Type 0) → Call → Type 0
IsUpdateBy key gives (Insert other val) = (other ≡ key) × gives None val
IsUpdateBy key gives (Replace other old new) = (other ≡ key) × gives (Some old) new
IsUpdateBy key gives _ = ⊥

-- the call that puts the value where this is there
abbrev pub update_call : KeyWords → Option (List ℕ) → List ℕ → Call
update_call key None val = Insert key val
update_call key (Some old) val = Replace key old val

-- what an update's answer says of its stand
abbrev pub update_reply : UpdateAnswer → Reply
update_reply (UpdateDone None) = Done
update_reply (UpdateDone (Some old)) = Yes
update_reply (UpdateFull need free) = Full need free

-- Done comes with a change where the value put isn't the one that was there
abbrev pub is_updated : List ℕ → UpdateAnswer → Bool
is_updated val (UpdateDone None) = true
is_updated val (UpdateDone (Some old)) = not (is_same old val)
is_updated val (UpdateFull need free) = false

-- Done answers what was there
abbrev pub AnswersFound : UpdateAnswer → Option (List ℕ) → Type 0
AnswersFound (UpdateDone there) found = there ≡ found
AnswersFound (UpdateFull need free) found = ⊤

-- an update was answered, by one stand: of the insert of a value that f gives for no value, where the key isn't there at the stand's place, or of the
-- replace of the value there by one that f gives for it
pub record IsUpdated (key : KeyWords) (gives : Option (List ℕ) → List ℕ → Type 0) (answer : UpdateAnswer) (before after : SeatData) : Type 0 where
  pub found : Option (List ℕ)
  pub val : List ℕ
  pub given : gives found val
  pub in_range : AreWords VALUE_WIDTH val
  pub change : IsChangeAmong (IsUpdateBy key gives) (update_call key found val) (update_reply answer) (is_updated val answer) before after
  pub there : value_at after.view change.answered.stand.place key ≡ found
  pub answers : AnswersFound answer found
  pub removes : after.view.removes ≡ before.view.removes

-- what a remove's answer says of its stand
abbrev pub removed_reply : RemoveAnswer → Reply
removed_reply (RemoveGone val) = Gone val
removed_reply RemoveAbsent = Absent
removed_reply (RemoveFull need free) = Full need free

-- the key's value at the stand's place
abbrev pub HasRemoved : RemoveAnswer → Option (List ℕ) → Type 0
HasRemoved (RemoveGone val) there = there ≡ Some val
HasRemoved RemoveAbsent there = there ≡ None
HasRemoved (RemoveFull need free) there = is_some there ≡ true

-- a change stands there
abbrev pub is_gone : RemoveAnswer → Bool
is_gone (RemoveGone val) = true
is_gone _ = false

-- a remove was answered, by the key's value at the stand's place; Gone comes with the change, and spends a remove
pub record IsRemoved (key : KeyWords) (answer : RemoveAnswer) (before after : SeatData) : Type 0 where
  pub change : IsKeyChange (Remove key) (removed_reply answer) (is_gone answer) before after
  pub there : HasRemoved answer (value_at after.view change.answered.stand.place key)
  pub removes : after.view.removes + (if is_gone answer then 1 else 0) ≡ before.view.removes
