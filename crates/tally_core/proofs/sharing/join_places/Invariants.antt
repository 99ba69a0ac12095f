use Rattle.std.specs.Vec.Iter.{into_iter_items}
use Rattle.tally_core.proofs.Places.{HasJoined}
use Rattle.tally_core.specs.Workers.{seats_of}
use Rattle.tally_core.proofs.sharing.join_places.Given as goal

abbrev pub invariant-loop-drawer : goal.invariant-loop-drawer
invariant-loop-drawer l = HasJoined l.batches l.all (seats_of l.workers.items) (into_iter_items l.drawer-iterator) l.fn.drawers.items
