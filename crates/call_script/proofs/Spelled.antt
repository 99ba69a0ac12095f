-- The calls that words spell.
use Rattle.std.specs.Prelude.{codes}
use Rattle.std.proofs.Common.{◌≡◌, ◌≢◌, ◌∙◌, ℕ, false, List, [], ◌∷◌, refl, sym}
use Rattle.std.proofs.lemmas.Bool.{false≢true}
use Rattle.seat_history.proofs.Changed.{same_from_words}
use Rattle.seat_history.specs.Step.{is_same}
use Rattle.seat_history.specs.declared.call.Call.{Call}
use Rattle.seat_history.specs.declared.call.Call.TheVariants.{Load, Store, Swap, Hold, Look, Release, Find, Insert, Replace, Remove}
use Rattle.seat_history.specs.declared.key.KeyWords.{KeyWords}
use Rattle.seat_history.specs.declared.words.TheConstants.{WIDTH, VALUE_WIDTH}
use Rattle.call_script.specs.Number.{IsNumber, IsTuple}
use Rattle.call_script.specs.Spelling.{IsKey, SpellsCall, name_of}

-- names that differ
apart : (a b : List ℕ) → is_same a b ≡ false → a ≢ b
apart a b h e = false≢true (sym h ∙ same_from_words a b e)

-- each name is that of one call
pub load_words : (a : List ℕ) (call : Call) → SpellsCall (codes "load" ∷ a ∷ []) call → (reg : ℕ) × (call ≡ Load reg) × IsNumber a reg
load_words a (Load reg) h = (reg, refl, h.1.0)
load_words a call h = absurd (apart (codes "load") (name_of call) refl h.0)

pub store_words : (a b : List ℕ) (call : Call) → SpellsCall (codes "store" ∷ a ∷ b ∷ []) call → (reg : ℕ) × (new : List ℕ) × (call ≡ Store reg new) × IsNumber a reg × IsTuple WIDTH b new
store_words a b (Store reg new) h = (reg, new, refl, h.1.0, h.1.1.0)
store_words a b call h = absurd (apart (codes "store") (name_of call) refl h.0)

pub swap_words : (a b d : List ℕ) (call : Call) → SpellsCall (codes "swap" ∷ a ∷ b ∷ d ∷ []) call → (reg : ℕ) × (old : List ℕ)
    × (new : List ℕ) × (call ≡ Swap reg old new) × IsNumber a reg × IsTuple WIDTH b old × IsTuple WIDTH d new
swap_words a b d (Swap reg old new) h = (reg, old, new, refl, h.1.0, h.1.1.0, h.1.1.1.0)
swap_words a b d call h = absurd (apart (codes "swap") (name_of call) refl h.0)

pub hold_words : (a : List ℕ) (call : Call) → SpellsCall (codes "hold" ∷ a ∷ []) call → (reg : ℕ) × (call ≡ Hold reg) × IsNumber a reg
hold_words a (Hold reg) h = (reg, refl, h.1.0)
hold_words a call h = absurd (apart (codes "hold") (name_of call) refl h.0)

pub find_words : (a : List ℕ) (call : Call) → SpellsCall (codes "find" ∷ a ∷ []) call → (key : KeyWords) × (call ≡ Find key) × IsKey a key
find_words a (Find key) h = (key, refl, h.1.0)
find_words a call h = absurd (apart (codes "find") (name_of call) refl h.0)

pub insert_words : (a b : List ℕ) (call : Call) → SpellsCall (codes "insert" ∷ a ∷ b ∷ []) call → (key : KeyWords) × (val : List ℕ) × (call ≡ Insert key val) × IsKey a key × IsTuple VALUE_WIDTH b val
insert_words a b (Insert key val) h = (key, val, refl, h.1.0, h.1.1.0)
insert_words a b call h = absurd (apart (codes "insert") (name_of call) refl h.0)

pub replace_words : (a b d : List ℕ) (call : Call) → SpellsCall (codes "replace" ∷ a ∷ b ∷ d ∷ []) call → (key : KeyWords) × (old : List ℕ)
    × (new : List ℕ) × (call ≡ Replace key old new) × IsKey a key × IsTuple VALUE_WIDTH b old × IsTuple VALUE_WIDTH d new
replace_words a b d (Replace key old new) h = (key, old, new, refl, h.1.0, h.1.1.0, h.1.1.1.0)
replace_words a b d call h = absurd (apart (codes "replace") (name_of call) refl h.0)

pub remove_words : (a : List ℕ) (call : Call) → SpellsCall (codes "remove" ∷ a ∷ []) call → (key : KeyWords) × (call ≡ Remove key) × IsKey a key
remove_words a (Remove key) h = (key, refl, h.1.0)
remove_words a call h = absurd (apart (codes "remove") (name_of call) refl h.0)

pub look_words : (call : Call) → SpellsCall (codes "look" ∷ []) call → call ≡ Look
look_words Look h = refl
look_words call h = absurd (apart (codes "look") (name_of call) refl h.0)

pub drop_words : (call : Call) → SpellsCall (codes "drop" ∷ []) call → call ≡ Release
drop_words Release h = refl
drop_words call h = absurd (apart (codes "drop") (name_of call) refl h.0)
