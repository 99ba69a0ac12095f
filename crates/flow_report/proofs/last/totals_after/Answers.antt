use Rattle.std.proofs.Common.{◌≡◌, ◌<◌, length, arith}
use Rattle.std.proofs.lemmas.Bool.Decides.{nat_tests}
use Rattle.flow_report.specs.Ranges.{AreTotalsInRange}
use Rattle.flow_report.specs.Text.{totals_text}
use Rattle.flow_report.proofs.LastParts.{totals_free}
use Rattle.flow_report.proofs.Spellings.{spelled_after, both_begin, none_first, none_second, pairs_prefix_free, fixed_free, none_from_strip, begins_from_strip}
use Rattle.flow_report.proofs.Spellings.{whole_text, no_whole_text, no_whole_text_longer}
use Rattle.flow_report.proofs.last.totals_after.Goals as goal

pub returns-in_err-text : goal.returns-in_err-text
unfolding spelled_after
returns-in_err-text c =
    let none = none_first totals_text AreTotalsInRange (none_from_strip _ _ c.in_err-text.ensures.cases) in
    rw c.from_residual.ensures (λ totals in_range. no_whole_text none (tt, totals) record { first = tt; second = in_range })

pub returns-in_err-totals : goal.returns-in_err-totals
unfolding spelled_after
returns-in_err-totals c =
    let front = begins_from_strip _ _ c.in_ok-text.text c.in_ok-text.ensures.cases in
    let none = none_second (fixed_free c.args.front.now) front c.in_err-totals.ensures in
    rw c.from_residual-in_err-totals.ensures (λ totals in_range. no_whole_text none (tt, totals) record { first = tt; second = in_range })

pub returns-then-is_empty : goal.returns-then-is_empty
unfolding spelled_after
returns-then-is_empty c =
    let front = begins_from_strip _ _ c.in_ok-text.text c.in_ok-text.ensures.cases in
    let totals = c.in_ok-totals.ensures in
    let empty : length c.in_ok-totals.rest.now ≡ 0 = grind (arith, nat_tests, c.if-is_empty.ensures) in
    (totals.in_range, whole_text (both_begin front totals) empty)

pub returns-else-is_empty : goal.returns-else-is_empty
unfolding spelled_after
returns-else-is_empty c =
    let front = begins_from_strip _ _ c.in_ok-text.text c.in_ok-text.ensures.cases in
    let totals = c.in_ok-totals.ensures in
    let some : 0 < length c.in_ok-totals.rest.now = grind (arith, nat_tests, c.if-is_empty.ensures) in
    λ others in_range. no_whole_text_longer (pairs_prefix_free (fixed_free c.args.front.now) totals_free) (both_begin front totals) some (tt, others) record { first = tt; second = in_range }
