use Rattle.std.specs.Prelude.{option_map}
use Rattle.std.proofs.Common.{◌≡◌, ◌∙◌, ◌∷◌, ap}
use Rattle.call_script.specs.Cut.{parts_at, parts_in, words_of}
use Rattle.call_script.proofs.Forms.{more_words}
use Rattle.call_script.proofs.Parts.{parts_some}
use Rattle.call_script.proofs.form.callers_word.Goals as goal

pub returns-in-Some-clause-none : goal.returns-in-Some-clause-none
returns-in-Some-clause-none c =
    let name = c.in_ok-name.name.now in
    let number = c.in_ok-number.number.now in
    let words : words_of c.args.line.now ≡ name ∷ (number ∷ parts_at 32 c.in-Some.field-0.now) =
    c.in_ok-name.ensures.found ∙ ap (λ rest. name ∷ parts_in 32 (option_map (λ bytes. bytes.now) rest)) c.in_ok-rest.was
    ∙ ap (λ ws. name ∷ ws) (c.in_ok-number.ensures.found ∙ ap (λ rest. number ∷ parts_in 32 (option_map (λ bytes. bytes.now) rest)) c.in-Some.is) in
    more_words name number (words_of c.args.line.now) (parts_at 32 c.in-Some.field-0.now) words (parts_some 32 c.in-Some.field-0.now)
