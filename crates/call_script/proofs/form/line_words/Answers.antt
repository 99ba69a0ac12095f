use Rattle.std.specs.Prelude.{option_map}
use Rattle.std.proofs.Common.{◌≡◌, ◌∙◌, ◌∷◌, ap}
use Rattle.call_script.specs.Cut.{parts_in, words_of}
use Rattle.call_script.specs.Form.{words_behind}
use Rattle.call_script.proofs.Forms.{line_form}
use Rattle.call_script.proofs.form.line_words.Goals as goal

pub returns-clause-call : goal.returns-clause-call
returns-clause-call c =
    let words : words_of c.args.line.now ≡ c.in_ok-caller.caller.now ∷ (c.in_ok-name.name.now ∷ words_behind c.in_ok-behind.behind) =
    c.in_ok-caller.ensures.found ∙ ap (λ rest. c.in_ok-caller.caller.now ∷ parts_in 32 (option_map (λ bytes. bytes.now) rest)) c.in_ok-rest.was
    ∙ ap (λ ws. c.in_ok-caller.caller.now ∷ ws) (c.in_ok-name.ensures.found ∙ ap (λ ws. c.in_ok-name.name.now ∷ ws) c.in_ok-behind.ensures.found) in
    line_form c.in_ok-form.form c.in_ok-caller.caller.now (c.in_ok-name.name.now ∷ words_behind c.in_ok-behind.behind)
    (words_of c.args.line.now) words c.in_ok-form.ensures.found (c.in_ok-caller.ensures.full, (c.in_ok-name.ensures.full, c.in_ok-behind.ensures.full))
