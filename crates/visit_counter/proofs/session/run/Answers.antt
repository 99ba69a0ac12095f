use Rattle.std.proofs.Common.{◌∙◌, ap, length, sym}
use Rattle.cache_hash.proofs.Prelude.{built_numbers, length-count_up, split_numbers}
use Rattle.cache_hash.specs.Prelude.{Plan, count_up}
use Rattle.visit_counter.proofs.session.run.Goals as goal

pub totals-requires-clause-whole : goal.totals-requires-clause-whole
totals-requires-clause-whole g c =
    let built = c.in-Ok.ensures.built.1 in
    c.in_ok-seats.ensures.back.numbers ∙ (split_numbers built c.in-Ok-split_all.ensures.split ∙ ap (λ (p : Plan). count_up 0 p.seats) (sym built.plan))

pub totals-requires-clause-each : goal.totals-requires-clause-each
totals-requires-clause-each g c =
    let built = c.in-Ok.ensures.built.1 in
    c.in_ok-seats.ensures.each ∙ (c.in-Ok-split_all.ensures.split.count ∙ (ap length (built_numbers built) ∙ (length-count_up 0 _ ∙ ap (λ (p : Plan). p.seats) (sym built.plan))))
