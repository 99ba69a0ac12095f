use Rattle.std.proofs.Common.{length}
use Rattle.node_pool.proofs.PutBack.{IsPutSoFar}
use Rattle.node_pool.proofs.put_back_all.Given as goal

-- some nodes were put back
abbrev pub invariant-nodes : goal.invariant-nodes
invariant-nodes l = IsPutSoFar l.fn.seat l.seat

abbrev pub decreases-nodes : goal.decreases-nodes
decreases-nodes l = length l.seat.holding
