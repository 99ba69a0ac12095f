-- The words of a form are those of a call.
use Rattle.std.proofs.Common.{◌≡◌, ℕ, ◌<◌, List, [], ◌∷◌, length, refl, sym, subst, arith}
use Rattle.seat_history.specs.declared.call.Call.TheVariants as call
use Rattle.seat_history.specs.declared.key.KeyWords.{KeyWords}
use Rattle.call_script.specs.Form.{words_in}
use Rattle.call_script.specs.Line.{AreFull, AreCallWords, AreFirstWords}
use Rattle.call_script.specs.Spelling.{HasCallWords}
use Rattle.call_script.specs.declared.form.Form.{Form}
use Rattle.call_script.specs.declared.form.Form.TheVariants.{Load, Store, Swap, Hold, Look, Release, Find, Insert, Replace, Remove}

pub some_key : KeyWords
some_key = record { k0 = 0; k1 = 0 }

pub form_words : (form : Form) → HasCallWords (words_in form)
form_words (Load reg) = (call.Load 0, refl, refl)
form_words (Store reg new) = (call.Store 0 [], refl, refl)
form_words (Swap reg old new) = (call.Swap 0 [] [], refl, refl)
form_words (Hold reg) = (call.Hold 0, refl, refl)
form_words Look = (call.Look, refl, refl)
form_words Release = (call.Release, refl, refl)
form_words (Find key) = (call.Find some_key, refl, refl)
form_words (Insert key val) = (call.Insert some_key [], refl, refl)
form_words (Replace key old new) = (call.Replace some_key [] [], refl, refl)
form_words (Remove key) = (call.Remove some_key, refl, refl)

pub line_form : (form : Form) (caller : List ℕ) (behind words : List (List ℕ)) → words ≡ caller ∷ behind → words_in form ≡ behind → AreFull (caller ∷ behind) → AreCallWords words
line_form form caller behind words e f full =
    subst AreCallWords (sym e) (full, subst HasCallWords f (form_words form))

-- line 1 has two words
pub more_words : (a b : List ℕ) (words more : List (List ℕ)) → words ≡ a ∷ (b ∷ more) → 0 < length more → AreFirstWords words → ⊥
more_words a b words [] e some h = absurd (omega arith)
more_words a b words (third ∷ more) e some h = subst AreFirstWords e h
