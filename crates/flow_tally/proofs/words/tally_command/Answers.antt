use Rattle.std.proofs.Common.{◌∙◌, ap₂}
use Rattle.std.proofs.lemmas.Result.{IfOk-weaker}
use Rattle.clap.specs.Words.{with_rule}
use Rattle.flow_tally.proofs.words.tally_command.Goals as goal

pub returns : goal.returns
returns c = IfOk-weaker c.arg.result _ _ (λ m h. h.shape c.files.ensures.global ∙ ap₂ with_rule c.in_ok-numbered.ensures c.files.ensures.rule) c.arg.ensures
