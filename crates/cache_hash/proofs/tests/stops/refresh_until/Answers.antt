use Rattle.big_atomic.proofs.Stopping.{may_copy, may_glance}
use Rattle.cache_hash.proofs.tests.stops.refresh_until.Goals as goal

pub node_glance-word-requires-clause-known : goal.node_glance-word-requires-clause-known
node_glance-word-requires-clause-known c = may_glance c.loop-j.invariant

pub inline_store-requires-clause-may : goal.inline_store-requires-clause-may
inline_store-requires-clause-may c =
    let glance = c.node_glance-word in
    may_copy c.loop-j.invariant glance.result glance.new.seat c.loop-j-test.true glance.ensures.reads glance.ensures.seat
