use Rattle.std.proofs.Common.{rules, refl}
use Rattle.flow_fold.specs.Words.{value_of_words}
use Rattle.flow_fold.proofs.Words.{words_of-value_of_words}
use Rattle.flow_fold.proofs.value.Value.of_words.Goals as goal

pub returns-clause-value : goal.returns-clause-value
unfolding value_of_words
returns-clause-value c = refl

pub returns-clause-undone : goal.returns-clause-undone
unfolding value_of_words
returns-clause-undone c = words_of-value_of_words c.args.words (search rules)
