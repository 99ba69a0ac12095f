use Rattle.std.proofs.Common.{◌++◌, false, take}
use Rattle.big_atomic.specs.Seats.{Stays}
use Rattle.flow_fold.specs.Flows.{Flows}
use Rattle.tally_core.specs.Attempts.{IsAdding}
use Rattle.tally_core.proofs.adding.add_pairs.Given as goal

abbrev pub invariant-loop-i : goal.invariant-loop-i
invariant-loop-i l = record {
  adding : (added : Flows) → IsAdding l.shared added false l.fn.seat → IsAdding l.shared (added ++ take l.i l.pairs) false l.seat;
  stays : Stays l.fn.seat l.seat;
}
