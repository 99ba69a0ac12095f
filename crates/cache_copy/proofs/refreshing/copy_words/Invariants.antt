use Rattle.cache_copy.proofs.Copying.{IsCopying}
use Rattle.cache_copy.proofs.refreshing.copy_words.Given as goal

-- the words so far are stored
abbrev pub invariant-loop-j : goal.invariant-loop-j
invariant-loop-j l = IsCopying l.cell l.j l.initial.seat l.seat
