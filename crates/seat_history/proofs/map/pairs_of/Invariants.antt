use Rattle.std.proofs.Common.{◌≡◌, ◌++◌, All}
use Rattle.seat_history.specs.Pairs.{IsPairInRange}
use Rattle.seat_history.proofs.Numbered.{numbered}
use Rattle.seat_history.proofs.map.pairs_of.Given as goal

abbrev pub invariant-loop-number : goal.invariant-loop-number
invariant-loop-number l = record {
  whole : numbered l.pairs.items ++ l.number-iterator ≡ l.map.entries;
  in_range : All IsPairInRange l.pairs.items;
}
