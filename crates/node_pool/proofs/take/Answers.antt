use Rattle.std.proofs.Common.{inl}
use Rattle.step_rules.proofs.Ties.Pools.{free_not_held, has_last}
use Rattle.node_pool.proofs.take.Goals as goal

pub node_store-requires-clause-own : goal.node_store-requires-clause-own
node_store-requires-clause-own c = inl (has_last c.args.seat.now.free c.next_free-node.result c.requires.free c.next_free-node.ensures.node)

-- a free node isn't announced
pub node_store-requires-clause-unannounced : goal.node_store-requires-clause-unannounced
node_store-requires-clause-unannounced c =
    let seat = c.args.seat.now in
    c.next_free-node.ensures.law.own_free c.next_free-node.result (has_last seat.free c.next_free-node.result c.requires.free c.next_free-node.ensures.node)

pub returns-clause-taken : goal.returns-clause-taken
returns-clause-taken c =
    let node = c.next_free-node.result in
    let seat = c.args.seat.now in
    let free = has_last seat.free node c.requires.free c.next_free-node.ensures.node in
    let took = c.node_store.ensures.seat.took (free_not_held seat c.next_free-node.ensures.law node free) in
    record { was_free = free; free = took.1; holding = took.0; same = c.node_store.ensures.seat.same }
