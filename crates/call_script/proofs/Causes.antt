-- What is wrong with a line.
use Rattle.std.specs.Prelude.{Err}
use Rattle.std.proofs.Common.{◌≡◌, ℕ, List, ◌∷◌, sym, subst}
use Rattle.seat_history.specs.Object.{Object}
use Rattle.seat_history.specs.declared.entry.Entry.{Entry}
use Rattle.call_script.specs.Cut.{words_of}
use Rattle.call_script.specs.Form.{ReadsCall}
use Rattle.call_script.specs.Line.{AreCallWords, SpellsEntry, SpellsWords, HasCause}
use Rattle.call_script.specs.Number.{IsNumber}
use Rattle.call_script.specs.Spelling.{SpellsCall}
use Rattle.call_script.specs.declared.bad_script.LineCause.{LineCause}
use Rattle.call_script.specs.declared.bad_script.LineCause.TheVariants.{Words, Number, Range, Held}

pub spelled_line : (line caller : List ℕ) (words : List (List ℕ)) (entry : Entry)
    → words_of line ≡ caller ∷ words → IsNumber caller entry.caller → SpellsCall words entry.call → SpellsEntry line entry
spelled_line line caller words entry e n s = subst (λ ws. SpellsWords ws entry) (sym e) (n, s)

pub line_spelled : (line caller : List ℕ) (words : List (List ℕ)) (entry : Entry)
    → words_of line ≡ caller ∷ words → SpellsEntry line entry → IsNumber caller entry.caller × SpellsCall words entry.call
line_spelled line caller words entry e s = subst (λ ws. SpellsWords ws entry) e s

-- the cause of a call's words is the line's
pub call_cause : (cause : LineCause) (callers n : ℕ) (object : Object) (line caller : List ℕ) (words : List (List ℕ))
    → words_of line ≡ caller ∷ words → AreCallWords (words_of line) → IsNumber caller n
    → ReadsCall words (Err cause) → HasCause callers object line cause
call_cause Words callers n object line caller words e w is h = absurd h
call_cause Number callers n object line caller words e w is h = (w, λ entry s. h entry.call (line_spelled line caller words entry e s).1)
call_cause Range callers n object line caller words e w is h =
    let entry : Entry = record { caller = n; call = h.0 } in
    (entry, spelled_line line caller words entry e is h.1, λ range. h.2 range.1)
call_cause Held callers n object line caller words e w is h = absurd h
