use Rattle.std.proofs.Common.{◌≡◌, arith, true}
use Rattle.node_pool.proofs.PutBack.{none_claims, put_more}
use Rattle.step_rules.proofs.Ties.Pools.{has_last}
use Rattle.step_rules.specs.World.{has}
use Rattle.node_pool.proofs.put_back_all.Goals as goal

pub put_back-requires-clause-held : goal.put_back-requires-clause-held
put_back-requires-clause-held c =
    let some = c.nodes-test.true in
    let count = c.holding.ensures.count in
    has_last c.nodes.seat.holding c.next_held-node.result (omega arith) c.next_held-node.ensures

pub put_back-requires-clause-unannounced : goal.put_back-requires-clause-unannounced
put_back-requires-clause-unannounced c =
    let some = c.nodes-test.true in
    let count = c.holding.ensures.count in
    let held : has c.nodes.seat.holding c.next_held-node.result ≡ true = has_last c.nodes.seat.holding c.next_held-node.result (omega arith) c.next_held-node.ensures in
    none_claims c.nodes.invariant c.next_held-node.result held c.requires.unannounced

pub nodes-preserved : goal.nodes-preserved
nodes-preserved c = put_more c.nodes.invariant c.put_back.ensures.free
