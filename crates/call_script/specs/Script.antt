-- Scripts, and what bytes read as.
use Rattle.std.specs.Prelude.{◌≡◌, ◌⊎◌, ℕ, ◌+◌, ◌<◌, ◌≤◌, List, [], ◌∷◌, Option, Some, None, Result, Ok, Err, length, take, slice_index_or, ⊤}
use Rattle.std.specs.List.{AllZip}
use Rattle.seat_history.specs.History.{object_from}
use Rattle.seat_history.specs.Object.{Object, MayCall, blank_object, object_after}
use Rattle.seat_history.specs.declared.entry.Entry.{Entry}
use Rattle.call_script.specs.Line.{HasCause, HasFirstCause, IsInRange, MayHaveCallers, NamesCallers, SpellsEntry}
use Rattle.call_script.specs.declared.bad_script.BadScript.{BadScript}
use Rattle.call_script.specs.declared.bad_script.BadScript.TheVariants.{BadLine, TooMany, NoMemory}
use Rattle.call_script.specs.declared.bad_script.LineCause.{LineCause}
use Rattle.call_script.specs.declared.script.Script.{Script}

-- each call is in range, and may be made on the object that those before it leave
abbrev pub MayRun : ℕ → Object → List Entry → Type 0
MayRun callers object [] = ⊤
MayRun callers object (entry ∷ entries) =
    IsInRange callers entry × MayCall (object.held entry.caller) entry.call × MayRun callers (object_after object entry) entries

-- line 1 and the further lines are a script of so many callers with these calls
pub record IsScript (first : List ℕ) (rest : List (List ℕ)) (callers : ℕ) (entries : List Entry) : Type 0 where
  pub named : NamesCallers first callers
  pub some : MayHaveCallers callers
  pub spelled : AllZip SpellsEntry rest entries
  pub may : MayRun callers blank_object entries
  pub few : length entries ≤ 65536

-- this line has the cause, and the lines before it are a script
pub record IsBadCall (first : List ℕ) (rest : List (List ℕ)) (line : ℕ) (cause : LineCause) : Type 0 where
  pub callers : ℕ
  pub entries : List Entry
  pub before : IsScript first (take (length entries) rest) callers entries
  pub number : line ≡ length entries + 2
  pub there : length entries < length rest
  pub few : length entries < 65536
  pub fits : HasCause callers (object_from blank_object entries) (slice_index_or rest (length entries) []) cause

-- this line is one too many, and the lines before it are a script
pub record IsOneMore (first : List ℕ) (rest : List (List ℕ)) (line : ℕ) : Type 0 where
  pub callers : ℕ
  pub entries : List Entry
  pub before : IsScript first (take (length entries) rest) callers entries
  pub number : line ≡ length entries + 2
  pub there : length entries < length rest
  pub full : length entries ≡ 65536

-- what bytes read as: a script, a bad line, or too many lines
pub data Reading : Type 0 where
  Good : ℕ → List Entry → Reading
  Bad : ℕ → LineCause → Reading
  Many : ℕ → Reading

-- the lines read as this
abbrev pub ReadAs : List (List ℕ) → Reading → Type 0
ReadAs [] reading = ⊥
ReadAs (first ∷ rest) (Good callers entries) = IsScript first rest callers entries
ReadAs (first ∷ rest) (Bad line cause) = ((line ≡ 1) × HasFirstCause first cause) ⊎ IsBadCall first rest line cause
ReadAs (first ∷ rest) (Many line) = IsOneMore first rest line

-- what is bad, want of memory aside
abbrev pub bad_reading : BadScript → Option Reading
bad_reading (BadLine line cause) = Some (Bad line cause)
bad_reading (TooMany line) = Some (Many line)
bad_reading NoMemory = None

-- what was read, want of memory aside
abbrev pub reading_of : Result Script BadScript → Option Reading
reading_of (Ok script) = Some (Good script.callers script.lines)
reading_of (Err bad) = bad_reading bad
