use Rattle.std.proofs.Common.{◌≡◌, ◌∙◌, ap₂, codes}
use Rattle.std.proofs.lemmas.Result.{IfOk-weaker}
use Rattle.clap.specs.Words.{app_of, new_app, with_rule}
use Rattle.flow_tally.specs.Words.{option_rule}
use Rattle.flow_tally.proofs.words.numbered.Goals as goal

pub returns : goal.returns
returns c =
    let one : app_of c.in_ok-arg.field-0 ≡ with_rule (new_app c.args.name.now) (option_rule (codes "workers")) =
    c.in_ok-arg.ensures.shape c.option.ensures.global ∙ ap₂ with_rule c.new.ensures.app c.option.ensures.rule in
    let two : app_of c.in_ok-arg-2.field-0 ≡ with_rule (with_rule (new_app c.args.name.now) (option_rule (codes "workers"))) (option_rule (codes "flows")) =
    c.in_ok-arg-2.ensures.shape c.option-2.ensures.global ∙ ap₂ with_rule one c.option-2.ensures.rule in
    IfOk-weaker c.arg-3.result _ _ (λ m h. h.shape c.option-3.ensures.global ∙ ap₂ with_rule two c.option-3.ensures.rule) c.arg-3.ensures
