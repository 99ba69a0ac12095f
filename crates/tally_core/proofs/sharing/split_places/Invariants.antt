use Rattle.tally_core.proofs.Places.{HasSplit}
use Rattle.tally_core.proofs.sharing.split_places.Given as goal

abbrev pub invariant-loop-place : goal.invariant-loop-place
invariant-loop-place l = HasSplit l.batches l.workers l._place l.first l.places.items
