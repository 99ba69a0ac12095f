use Rattle.std.proofs.Common.{◌≡◌, ◌++◌, All, None, drop}
use Rattle.seat_history.specs.Pairs.{IsPairInRange}
use Rattle.seat_history.proofs.FirstPairs.{firsts}
use Rattle.seat_history.proofs.sorting.first_pairs.Given as goal

abbrev pub invariant-loop-pair : goal.invariant-loop-pair
invariant-loop-pair l = record {
  whole : l.pairs.items ++ firsts l.last (drop l.pair-index l.sorted) ≡ firsts None l.sorted;
  in_range : All IsPairInRange l.pairs.items;
}
