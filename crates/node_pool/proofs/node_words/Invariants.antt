use Rattle.node_pool.proofs.Fills.{IsReadTo}
use Rattle.node_pool.proofs.node_words.Given as goal

-- the words so far were read
abbrev pub invariant-loop-j : goal.invariant-loop-j
invariant-loop-j l = IsReadTo l.node l.word-items l.j l.initial.seat l.seat
