use Rattle.std.proofs.Common.{refl}
use Rattle.flow_fold.specs.Words.{value_of_words, words_of}
use Rattle.flow_fold.proofs.value.Value.words.Goals as goal

pub returns-clause-words : goal.returns-clause-words
unfolding words_of
returns-clause-words c = refl

pub returns-clause-undone : goal.returns-clause-undone
unfolding value_of_words
returns-clause-undone c = refl
