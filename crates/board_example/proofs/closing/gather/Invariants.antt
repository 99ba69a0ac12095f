use Rattle.big_atomic.proofs.Gathering.{GatheredSoFar}
use Rattle.std.specs.Vec.Iter.{into_iter_items}
use Rattle.board_example.specs.Rules.{HasDone}
use Rattle.board_example.proofs.closing.gather.Given as goal

abbrev pub invariant-loop-other : goal.invariant-loop-other
invariant-loop-other l = GatheredSoFar (λ one. one.seat) (HasDone l.shared) l.first (into_iter_items l.other-iterator) l.fn.members.items
