-- The lines of a script, and what is wrong with one.
use Rattle.std.specs.Prelude.{◌≡◌, ℕ, ◌<◌, ◌≤◌, List, [], ◌∷◌, length, codes}
use Rattle.std.specs.List.{AllByRecursion}
use Rattle.seat_history.specs.Object.{Object, MayCall, NamesBelow}
use Rattle.seat_history.specs.declared.entry.Entry.{Entry}
use Rattle.call_script.specs.Cut.{words_of}
use Rattle.call_script.specs.Number.{IsNumber}
use Rattle.call_script.specs.Spelling.{SpellsCall, HasCallWords}
use Rattle.call_script.specs.declared.bad_script.LineCause.{LineCause}
use Rattle.call_script.specs.declared.bad_script.LineCause.TheVariants.{Words, Number, Range, Held}

-- no word is empty
abbrev pub AreFull : List (List ℕ) → Type 0
AreFull words = AllByRecursion (λ word. 0 < length word) words

-- line 1 has these words: `callers` and one more
abbrev pub AreFirstWords : List (List ℕ) → Type 0
AreFirstWords (name ∷ number ∷ []) = (name ≡ codes "callers") × (0 < length number)
AreFirstWords _ = ⊥

-- line 1 names so many callers
abbrev pub NamesCallers : List ℕ → ℕ → Type 0
NamesCallers line callers = (number : List ℕ) × (words_of line ≡ codes "callers" ∷ number ∷ []) × IsNumber number callers

-- a script may have so many callers
abbrev pub MayHaveCallers : ℕ → Type 0
MayHaveCallers callers = (1 ≤ callers) × (callers ≤ 64)

-- the cause fits line 1, and none before it
abbrev pub HasFirstCause : List ℕ → LineCause → Type 0
HasFirstCause line Words = AreFirstWords (words_of line) → ⊥
HasFirstCause line Number = AreFirstWords (words_of line) × ((callers : ℕ) → NamesCallers line callers → ⊥)
HasFirstCause line Range = (callers : ℕ) × NamesCallers line callers × (MayHaveCallers callers → ⊥)
HasFirstCause line Held = ⊥

-- the words of a call line: a caller's and a call's
abbrev pub AreCallWords : List (List ℕ) → Type 0
AreCallWords [] = ⊥
AreCallWords (caller ∷ words) = AreFull (caller ∷ words) × HasCallWords words

-- the words spell a caller's call
abbrev pub SpellsWords : List (List ℕ) → Entry → Type 0
SpellsWords [] entry = ⊥
SpellsWords (caller ∷ words) entry = IsNumber caller entry.caller × SpellsCall words entry.call

-- the line spells a caller's call
abbrev pub SpellsEntry : List ℕ → Entry → Type 0
SpellsEntry line entry = SpellsWords (words_of line) entry

-- the caller is one of so many, and the register, if any, is there
abbrev pub IsInRange : ℕ → Entry → Type 0
IsInRange callers entry = (entry.caller < callers) × NamesBelow 16 entry.call

-- the cause fits a call line, and none before it, where the lines before leave this object
abbrev pub HasCause : ℕ → Object → List ℕ → LineCause → Type 0
HasCause callers object line Words = AreCallWords (words_of line) → ⊥
HasCause callers object line Number = AreCallWords (words_of line) × ((entry : Entry) → SpellsEntry line entry → ⊥)
HasCause callers object line Range = (entry : Entry) × SpellsEntry line entry × (IsInRange callers entry → ⊥)
HasCause callers object line Held =
    (entry : Entry) × SpellsEntry line entry × IsInRange callers entry × (MayCall (object.held entry.caller) entry.call → ⊥)
