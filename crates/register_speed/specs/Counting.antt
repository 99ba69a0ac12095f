-- What stands of a thread's calls, and which of them were made.
use Rattle.std.specs.Prelude.{◌≡◌, ℕ, Bool, true, false, List, replicate}
use Rattle.register_speed.specs.Turns.{register_of, step_of}
use Rattle.register_speed.specs.declared.asked.Asked.{Asked}
use Rattle.register_speed.specs.declared.turns.Step.{Step}
use Rattle.register_speed.specs.declared.turns.Step.TheVariants.{Load as LoadStep, Store as StoreStep, Swap as SwapStep}
use Rattle.seat_history.specs.declared.call.Call.{Call}
use Rattle.seat_history.specs.declared.call.Call.TheVariants.{Load, Store, Swap}
use Rattle.seat_history.specs.declared.reply.Reply.{Reply}
use Rattle.seat_history.specs.declared.reply.Reply.TheVariants.{Words, Done, Yes, No}
use Rattle.seat_history.specs.declared.words.TheConstants.{WIDTH}
use Rattle.speed_runs.specs.Carrying.{HasCarried, IsNextWith}
use Rattle.speed_runs.specs.Runs.{IsNew}
use Rattle.step_rules.specs.SeatData.{ObjectData, SeatData}
use Rattle.step_rules.specs.declared.view.Stand.{Stand}

-- call i of a thread, which loaded these words last: a load, a store of a new record, or a swap of the loaded words to a new record
abbrev pub IsStep : Step → ℕ → ℕ → ℕ → List ℕ → Call → Type 0
IsStep LoadStep reg thread i loaded (Load r) = r ≡ reg
IsStep StoreStep reg thread i loaded (Store r new) = (r ≡ reg) × IsNew thread i new
IsStep SwapStep reg thread i loaded (Swap r old new) = (r ≡ reg) × (old ≡ loaded) × IsNew thread i new
IsStep _ reg thread i loaded call = ⊥

-- the stand of a thread's call i
pub record IsTurn (asked : Asked) (thread i : ℕ) (loaded : List ℕ) (s : Stand) : Type 0 where
  pub by : s.by ≡ thread
  pub call : IsStep (step_of asked.kind i) (register_of asked thread i) thread i loaded s.call

-- the words that were loaded last, after this reply
abbrev pub words_after : List ℕ → Reply → List ℕ
words_after loaded (Words words) = words
words_after loaded reply = loaded

-- the same, after this stand
abbrev pub loaded_after : List ℕ → Stand → List ℕ
loaded_after loaded s = words_after loaded s.reply

-- the words of a register at the start
abbrev pub blank : List ℕ
blank = replicate WIDTH 0

-- the stand comes next of a thread, after these
abbrev pub IsNext : Asked → ℕ → List Stand → Stand → Type 0
IsNext asked = IsNextWith loaded_after blank (IsTurn asked)

abbrev pub is_made_call : Call → Reply → Bool
is_made_call (Load reg) reply = true
is_made_call (Store reg new) Done = true
is_made_call (Swap reg old new) Yes = true
is_made_call (Swap reg old new) No = true
is_made_call _ reply = false

-- a load, a store that was answered Done, or a compare-and-swap that was answered Yes or No
abbrev pub is_made : Stand → Bool
is_made s = is_made_call s.call s.reply

-- after i calls of a thread, and these words are those that it loaded last
abbrev pub HasLoaded : Asked → ObjectData → ℕ → SeatData → List ℕ → ℕ → Type 0
HasLoaded asked = HasCarried loaded_after blank (IsTurn asked) is_made
