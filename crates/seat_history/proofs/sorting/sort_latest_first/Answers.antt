use Rattle.std.proofs.Common.{rules, ap, ◌∙◌}
use Rattle.std.proofs.lemmas.List.Sorted.{IsNonDecreasingBy-from_sort_by_key, answers_always}
use Rattle.seat_history.specs.Key.{key_number}
use Rattle.seat_history.specs.Pairs.{value_in}
use Rattle.seat_history.proofs.FirstPairs.{stable_values}
use Rattle.seat_history.proofs.sorting.sort_latest_first.Goals as goal

pub returns-clause-rising : goal.returns-clause-rising
returns-clause-rising c = IsNonDecreasingBy-from_sort_by_key (λ pair. key_number pair.0) _ c.in_ok-sort_by_key.ensures.sorted (λ a r q k. search rules)

pub returns-clause-latest : goal.returns-clause-latest
returns-clause-latest c number =
    stable_values _ _ (c.sort_by_key.ensures.stable (λ pair. key_number pair.0) (answers_always _ _ _ (λ f a r g h. search rules))) number
    ∙ ap (λ pairs. value_in pairs number) c.reverse.ensures.items
