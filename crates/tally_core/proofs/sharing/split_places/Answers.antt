use Rattle.std.proofs.Common.{arith}
use Rattle.tally_core.proofs.Places.{all_split, none_split, split_more}
use Rattle.tally_core.proofs.sharing.split_places.Goals as goal

pub loop-place-init : goal.loop-place-init
loop-place-init c = none_split c.requires.ours c.requires.law c.requires.fresh c.requires.workers.0 c.in_ok-places.ensures.items

pub split-place-requires-clause-ours : goal.split-place-requires-clause-ours
split-place-requires-clause-ours c = c.loop-place.invariant.ours

pub split-place-requires-clause-fresh : goal.split-place-requires-clause-fresh
split-place-requires-clause-fresh c = c.loop-place.invariant.fresh

pub split-place-requires-clause-more : goal.split-place-requires-clause-more
split-place-requires-clause-more c = let left = c.loop-place.invariant.left in omega (arith, left, c.loop-place-test.true)

pub loop-place-preserved : goal.loop-place-preserved
loop-place-preserved c = split_more c.loop-place.invariant c.split-place.ensures.left c.split-place.ensures.right c.split-place.ensures.law c.loop-place-test.true c.in_ok-push.ensures.items

pub returns-clause-count : goal.returns-clause-count
returns-clause-count c = (all_split c.loop-place.invariant c.in_ok-push-2.ensures.items c.loop-place-test.false).0

pub returns-clause-undrawn : goal.returns-clause-undrawn
returns-clause-undrawn c = (all_split c.loop-place.invariant c.in_ok-push-2.ensures.items c.loop-place-test.false).1
