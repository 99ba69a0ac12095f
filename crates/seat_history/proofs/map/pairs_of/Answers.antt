use Rattle.std.proofs.Common.{◌≡◌, arith}
use Rattle.std.proofs.lemmas.Grind.{common_steps}
use Rattle.std.proofs.lemmas.List.{append-nil}
use Rattle.seat_history.proofs.Numbered.{are_pairs, numbered}
use Rattle.seat_history.proofs.map.pairs_of.Goals as goal

pub loop-number-preserved : goal.loop-number-preserved
loop-number-preserved c = record {
  whole = grind (arith, common_steps);
  in_range = grind (arith, common_steps);
}

pub returns-clause-pairs : goal.returns-clause-pairs
returns-clause-pairs c =
    let whole : numbered c.loop-number.pairs.items ≡ c.args.map.now.entries = grind (arith, append-nil, c.loop-number.invariant.whole, c.in-None.ensures.steps) in
    are_pairs c.loop-number.pairs.items c.args.map.now whole c.len.ensures.ordered
