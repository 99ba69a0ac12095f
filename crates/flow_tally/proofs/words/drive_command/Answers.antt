use Rattle.std.proofs.Common.{◌≡◌, ◌∙◌, ap₂, codes}
use Rattle.std.proofs.lemmas.Result.{IfOk-weaker}
use Rattle.clap.specs.Words.{app_of, new_app, with_rule}
use Rattle.flow_tally.specs.Words.{option_rule}
use Rattle.flow_tally.proofs.words.drive_command.Goals as goal

pub returns : goal.returns
returns c =
    let one : app_of c.in_ok-arg.field-0 ≡ with_rule (new_app (codes "drive")) (option_rule (codes "buckets")) =
    c.in_ok-arg.ensures.shape c.option.ensures.global ∙ ap₂ with_rule c.new.ensures.app c.option.ensures.rule in
    let two : app_of c.in_ok-arg-2.field-0 ≡ with_rule (with_rule (new_app (codes "drive")) (option_rule (codes "buckets"))) (option_rule (codes "share")) =
    c.in_ok-arg-2.ensures.shape c.option-2.ensures.global ∙ ap₂ with_rule one c.option-2.ensures.rule in
    IfOk-weaker c.arg-3.result _ _ (λ m h. h.shape c.required.ensures.global ∙ ap₂ with_rule two c.required.ensures.rule) c.arg-3.ensures
