use Rattle.std.proofs.Common.{◌∙◌, ap, rules, sym}
use Rattle.flow_fold.specs.Words.{words_of}
use Rattle.tally_core.proofs.adding.merge_words.Goals as goal

pub returns-clause-merges : goal.returns-clause-merges
returns-clause-merges c = (c.of_words.result, search rules, sym c.of_words.ensures.undone, c.words.ensures.words ∙ ap words_of c.merge-merged.ensures.merged)

pub returns-clause-of_value : goal.returns-clause-of_value
returns-clause-of_value c = (c.merge-merged.result, search rules, c.words.ensures.words)
