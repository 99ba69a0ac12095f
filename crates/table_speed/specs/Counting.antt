-- What stands of a thread's calls, and which of them were made.
use Rattle.std.specs.Prelude.{◌≡◌, ℕ, Bool, true, false, List, Option, Some, None}
use Rattle.seat_history.specs.declared.call.Call.{Call}
use Rattle.seat_history.specs.declared.call.Call.TheVariants.{Find, Insert, Replace}
use Rattle.seat_history.specs.declared.key.KeyWords.{KeyWords}
use Rattle.seat_history.specs.declared.reply.Reply.{Reply}
use Rattle.seat_history.specs.declared.reply.Reply.TheVariants.{Absent, Done, Found, Present, Val, Yes}
use Rattle.speed_runs.specs.Carrying.{HasCarried, IsNextWith}
use Rattle.speed_runs.specs.Runs.{IsNew}
use Rattle.step_rules.specs.SeatData.{ObjectData, SeatData}
use Rattle.step_rules.specs.declared.view.Stand.{Stand}
use Rattle.table_speed.specs.Turns.{IsSum, index_of, key_of, step_of}
use Rattle.table_speed.specs.declared.asked.Asked.{Asked}
use Rattle.table_speed.specs.declared.turns.Step.{Step}
use Rattle.table_speed.specs.declared.turns.Step.TheVariants.{Find as FindStep, Insert as InsertStep, Replace as ReplaceStep}

-- call i of a thread: a find of this key, an insert of it with a new value, or a replace of the value found by the sum
abbrev pub IsStep : Step → KeyWords → ℕ → ℕ → Call → Type 0
IsStep FindStep key thread i (Find k) = k ≡ key
IsStep InsertStep key thread i (Insert k val) = (k ≡ key) × IsNew thread i val
IsStep (ReplaceStep val) key thread i (Replace k old new) = (k ≡ key) × (old ≡ val) × IsSum val thread i new
IsStep _ key thread i call = ⊥

-- the stand of a thread's call i, where the last find found this
pub record IsTurn (asked : Asked) (thread i : ℕ) (found : Option (List ℕ)) (s : Stand) : Type 0 where
  pub by : s.by ≡ thread
  pub call : IsStep (step_of asked i found) (key_of (index_of asked thread i)) thread i s.call

-- what the last find found, after a call with this reply
abbrev pub found_by : Option (List ℕ) → Call → Reply → Option (List ℕ)
found_by found (Find key) (Val val) = Some val
found_by found (Find key) reply = None
found_by found call reply = found

-- the same, after this stand
abbrev pub found_after : Option (List ℕ) → Stand → Option (List ℕ)
found_after found s = found_by found s.call s.reply

-- the stand comes next of a thread, after these
abbrev pub IsNext : Asked → ℕ → List Stand → Stand → Type 0
IsNext asked = IsNextWith found_after None (IsTurn asked)

abbrev pub is_made_call : Call → Reply → Bool
is_made_call (Find key) reply = true
is_made_call (Insert key val) Done = true
is_made_call (Insert key val) (Present there) = true
is_made_call (Replace key old new) Yes = true
is_made_call (Replace key old new) (Found there) = true
is_made_call (Replace key old new) Absent = true
is_made_call _ reply = false

-- a find, an insert that was answered Done or Present, or a replace that was answered Yes, Found or Absent
abbrev pub is_made : Stand → Bool
is_made s = is_made_call s.call s.reply

-- after i calls of a thread, and this is what its last find found
abbrev pub HasFound : Asked → ObjectData → ℕ → SeatData → Option (List ℕ) → ℕ → Type 0
HasFound asked = HasCarried found_after None (IsTurn asked) is_made
