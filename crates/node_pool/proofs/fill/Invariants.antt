use Rattle.node_pool.proofs.Fills.{IsFilledTo}
use Rattle.node_pool.proofs.fill.Given as goal

-- the words so far are stored
abbrev pub invariant-loop-j : goal.invariant-loop-j
invariant-loop-j l = IsFilledTo l.node l.fn.words l.j l.initial.seat l.seat
