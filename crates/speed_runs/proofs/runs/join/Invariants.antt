use Rattle.std.proofs.Common.{◌+◌}
use Rattle.big_atomic.proofs.Gathering.{GatheredSoFar}
use Rattle.std.specs.Vec.Iter.{into_iter_items}
use Rattle.speed_runs.specs.Runs.{HasRun}
use Rattle.speed_runs.proofs.runs.join.Given as goal

abbrev pub invariant-loop-other : goal.invariant-loop-other
invariant-loop-other g l =
    GatheredSoFar (λ one. one.seat) (λ one. HasRun (g.W.Work.is_turn l.work) g.W.Work.is_made (g.W.Work.filling l.work + g.W.Work.calls l.work) l.shared one.seat one.done)
    l.first (into_iter_items l.other-iterator) l.fn.all.items
