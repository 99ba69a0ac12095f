use Rattle.std.proofs.Common.{rules}
use Rattle.cache_hash.proofs.asked.change_to.Goals as goal

pub returns-in-None-clause-words : goal.returns-in-None-clause-words
returns-in-None-clause-words c = record { long = search rules; below = λ j. search rules }

pub returns-in-Some-clause-words : goal.returns-in-Some-clause-words
returns-in-Some-clause-words c = record { long = search rules; below = λ j. search rules }
