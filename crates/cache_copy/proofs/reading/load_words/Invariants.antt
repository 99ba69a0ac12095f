use Rattle.cache_copy.proofs.Loading.{IsReading}
use Rattle.cache_copy.proofs.reading.load_words.Given as goal

-- the words so far were loaded
abbrev pub invariant-loop-j : goal.invariant-loop-j
invariant-loop-j l = IsReading l.cell l.word-items l.j l.initial.seat l.seat
