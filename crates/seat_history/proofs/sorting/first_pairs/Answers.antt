use Rattle.std.proofs.Common.{◌≡◌, ◌∙◌, ◌++◌, None, append-nil, ap, sym, subst, arith}
use Rattle.std.proofs.lemmas.List.{drop_all}
use Rattle.seat_history.specs.Pairs.{ArePairsOf, Pairs, value_in}
use Rattle.seat_history.proofs.FirstPairs.{firsts, firsts_are_pairs}
use Rattle.seat_history.proofs.sorting.first_pairs.Goals as goal

pub returns-clause-pairs : goal.returns-clause-pairs
returns-clause-pairs c =
    let sorted : Pairs = c.args.sorted.now in
    let all : c.loop-pair.pairs.items ≡ firsts None sorted =
    sym (append-nil c.loop-pair.pairs.items)
    ∙ (ap (λ (left : Pairs). c.loop-pair.pairs.items ++ firsts c.loop-pair.last left)
    (sym (drop_all c.loop-pair.pair-index sorted (let end = c.loop-pair-test.false in let e = c.loop-pair.auto.pair-index-end in omega arith)))
    ∙ c.loop-pair.invariant.whole) in
    subst (λ pairs. ArePairsOf (value_in sorted) pairs) (sym all) (firsts_are_pairs sorted c.requires)
