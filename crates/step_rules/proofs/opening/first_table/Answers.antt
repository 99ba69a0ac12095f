use Rattle.std.proofs.Common.{subst, sym}
use Rattle.std.proofs.lemmas.Result.{IfOk-weaker}
use Rattle.step_rules.specs.Sound.{Sound}
use Rattle.step_rules.specs.Starts.{IsStart}
use Rattle.step_rules.specs.Views.{starting}
use Rattle.step_rules.proofs.World.Opens.{opens, starts_sound}
use Rattle.step_rules.proofs.opening.first_table.Goals as goal

pub of_words-requires : goal.of_words-requires
of_words-requires c = opens c.args.plan.now c.as_slice.result.now c.requires.plan (subst (IsStart c.args.plan.now) (sym c.as_slice.ensures.value) c.in_ok-words.ensures.start)

pub returns-clause-sound : goal.returns-clause-sound
returns-clause-sound c = IfOk-weaker c.of_words.result _ (λ _. Sound (starting c.args.plan.now))
    (λ _ _. starts_sound c.args.plan.now c.in_ok-words.words.items c.requires.plan c.in_ok-words.ensures.start) c.of_words.ensures
