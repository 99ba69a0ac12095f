use Rattle.std.proofs.Common.{◌≡◌, ◌∙◌, ap₂, codes}
use Rattle.std.proofs.lemmas.Result.{IfOk-weaker}
use Rattle.clap.specs.Words.{app_of, with_rule}
use Rattle.flow_tally.specs.Words.{numbered_app, required_rule}
use Rattle.flow_tally.proofs.words.trial_command.Goals as goal

pub returns : goal.returns
returns c =
    let one : app_of c.in_ok-arg.field-0 ≡ with_rule (numbered_app (codes "trial")) (required_rule (codes "START")) =
    c.in_ok-arg.ensures.shape c.required.ensures.global ∙ ap₂ with_rule c.in_ok-numbered.ensures c.required.ensures.rule in
    IfOk-weaker c.arg-2.result _ _ (λ m h. h.shape c.required-2.ensures.global ∙ ap₂ with_rule one c.required-2.ensures.rule) c.arg-2.ensures
