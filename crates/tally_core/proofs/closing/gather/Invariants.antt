use Rattle.std.specs.Vec.Iter.{into_iter_items}
use Rattle.tally_core.proofs.Gathered.{HasTakenIn}
use Rattle.tally_core.proofs.closing.gather.Given as goal

abbrev pub invariant-loop-other : goal.invariant-loop-other
invariant-loop-other g l = HasTakenIn l.shared l.seat (into_iter_items l.other-iterator) l.fn.workers.items
