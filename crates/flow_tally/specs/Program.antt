-- What the program makes of its arguments.
use Rattle.std.specs.Prelude.{◌≡◌, ℕ, List, [], drop, Option, Result, Ok, Err}
use Rattle.flow_tally.specs.Input.{FeedShown}
use Rattle.flow_tally.specs.OutShown.{OutShown}
use Rattle.flow_tally.specs.Outcome.{HasRun}
use Rattle.flow_tally.specs.Words.{words_asked}
use Rattle.flow_tally.specs.declared.status.Status.{Status}
use Rattle.flow_tally.specs.declared.status.Status.TheVariants.{NoMemory}
use Rattle.step_rules.specs.Closing.{ClosedData}

-- the words after the first argument, which is the program's name; none, which fits no command, where the
-- arguments are no text
abbrev pub words_given : {Args Fault Word : Type 0} → (Args → List Word) → Result Args Fault → List Word
words_given arguments (Ok args) = drop 1 (arguments args)
words_given arguments (Err fault) = []

-- there are no arguments, for want of memory
abbrev pub IsWanting : {Args Fault : Type 0} → (Fault → Type 0) → Result Args Fault → Type 0
IsWanting is_memory (Ok args) = ⊥
IsWanting is_memory (Err fault) = is_memory fault

-- a run with these words ended so; it ended for want of memory where there were no arguments for that cause
pub record EndsAs (words : List (List ℕ)) (wanting : Type 0) (feed : FeedShown) (out : OutShown) (closed : Option ClosedData) (status : Status) : Type 0 where
  pub run : HasRun (words_asked words) feed out closed status
  pub memory : wanting → status ≡ NoMemory
