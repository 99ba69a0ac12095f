-- How calls are spelled.
use Rattle.std.specs.Prelude.{◌≡◌, ℕ, List, [], ◌∷◌, length, codes}
use Rattle.std.specs.List.{AllZip}
use Rattle.seat_history.specs.declared.call.Call.{Call}
use Rattle.seat_history.specs.declared.call.Call.TheVariants.{Load, Store, Swap, Hold, Look, Release, Find, Insert, Replace, Remove}
use Rattle.seat_history.specs.declared.key.KeyWords.{KeyWords}
use Rattle.seat_history.specs.declared.words.TheConstants.{WIDTH, VALUE_WIDTH}
use Rattle.call_script.specs.Number.{IsNumber, IsTuple}

-- what a word stands for: one number, or a tuple of up to so many
pub data Field : Type 0 where
  One : ℕ → Field
  UpTo : ℕ → List ℕ → Field

-- a key is up to two numbers
abbrev pub key_field : KeyWords → Field
key_field key = UpTo 2 (key.k0 ∷ key.k1 ∷ [])

-- the text of a key
abbrev pub IsKey : List ℕ → KeyWords → Type 0
IsKey text key = IsTuple 2 text (key.k0 ∷ key.k1 ∷ [])

-- the name of a call
abbrev pub name_of : Call → List ℕ
name_of (Load reg) = codes "load"
name_of (Store reg new) = codes "store"
name_of (Swap reg old new) = codes "swap"
name_of (Hold reg) = codes "hold"
name_of Look = codes "look"
name_of Release = codes "drop"
name_of (Find key) = codes "find"
name_of (Insert key val) = codes "insert"
name_of (Replace key old new) = codes "replace"
name_of (Remove key) = codes "remove"

-- what the words behind the name stand for
abbrev pub fields_of : Call → List Field
fields_of (Load reg) = One reg ∷ []
fields_of (Store reg new) = One reg ∷ UpTo WIDTH new ∷ []
fields_of (Swap reg old new) = One reg ∷ UpTo WIDTH old ∷ UpTo WIDTH new ∷ []
fields_of (Hold reg) = One reg ∷ []
fields_of Look = []
fields_of Release = []
fields_of (Find key) = key_field key ∷ []
fields_of (Insert key val) = key_field key ∷ UpTo VALUE_WIDTH val ∷ []
fields_of (Replace key old new) = key_field key ∷ UpTo VALUE_WIDTH old ∷ UpTo VALUE_WIDTH new ∷ []
fields_of (Remove key) = key_field key ∷ []

-- the word stands for the field
abbrev pub IsField : List ℕ → Field → Type 0
IsField word (One n) = IsNumber word n
IsField word (UpTo most words) = IsTuple most word words

-- the words spell the call: its name, and a word for each field
abbrev pub SpellsCall : List (List ℕ) → Call → Type 0
SpellsCall [] call = ⊥
SpellsCall (name ∷ words) call = (name ≡ name_of call) × AllZip IsField words (fields_of call)

-- the words are the name of some call, and as many more as it has fields
abbrev pub HasCallWords : List (List ℕ) → Type 0
HasCallWords [] = ⊥
HasCallWords (name ∷ words) = (call : Call) × (name ≡ name_of call) × (length words ≡ length (fields_of call))
