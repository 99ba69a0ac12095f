-- Calls as their words.
use Rattle.std.specs.Prelude.{ℕ, List, [], ◌∷◌, Result, Ok, Err, codes}
use Rattle.seat_history.specs.Object.{NamesBelow}
use Rattle.seat_history.specs.declared.call.Call.{Call}
use Rattle.call_script.specs.Spelling.{SpellsCall}
use Rattle.call_script.specs.declared.bad_script.LineCause.{LineCause}
use Rattle.call_script.specs.declared.bad_script.LineCause.TheVariants as cause
use Rattle.call_script.specs.declared.form.Behind.{Behind}
use Rattle.call_script.specs.declared.form.Behind.TheVariants as behind
use Rattle.call_script.specs.declared.form.Form.{Form}
use Rattle.call_script.specs.declared.form.Form.TheVariants.{Load, Store, Swap, Hold, Look, Release, Find, Insert, Replace, Remove}

-- the words behind a name
abbrev pub words_behind : Behind → List (List ℕ)
words_behind behind.Nothing = []
words_behind (behind.One a) = a.now ∷ []
words_behind (behind.Two a b) = a.now ∷ b.now ∷ []
words_behind (behind.Three a b c) = a.now ∷ b.now ∷ c.now ∷ []

-- the name and the words behind it
abbrev pub words_in : Form → List (List ℕ)
words_in (Load reg) = codes "load" ∷ reg.now ∷ []
words_in (Store reg new) = codes "store" ∷ reg.now ∷ new.now ∷ []
words_in (Swap reg old new) = codes "swap" ∷ reg.now ∷ old.now ∷ new.now ∷ []
words_in (Hold reg) = codes "hold" ∷ reg.now ∷ []
words_in Look = codes "look" ∷ []
words_in Release = codes "drop" ∷ []
words_in (Find key) = codes "find" ∷ key.now ∷ []
words_in (Insert key val) = codes "insert" ∷ key.now ∷ val.now ∷ []
words_in (Replace key old new) = codes "replace" ∷ key.now ∷ old.now ∷ new.now ∷ []
words_in (Remove key) = codes "remove" ∷ key.now ∷ []

-- what the words of a call are read as
abbrev pub ReadsCall : List (List ℕ) → Result Call LineCause → Type 0
ReadsCall words (Ok call) = SpellsCall words call × NamesBelow 16 call
ReadsCall words (Err cause.Words) = ⊥
ReadsCall words (Err cause.Number) = (call : Call) → SpellsCall words call → ⊥
ReadsCall words (Err cause.Range) = (call : Call) × SpellsCall words call × (NamesBelow 16 call → ⊥)
ReadsCall words (Err cause.Held) = ⊥
