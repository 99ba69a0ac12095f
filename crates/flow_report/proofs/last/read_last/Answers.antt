use Rattle.std.proofs.Common.{◌≡◌, ℕ, List, subst}
use Rattle.flow_report.specs.Reading.{EndsInTotals}
use Rattle.flow_report.specs.Text.{sums_text}
use Rattle.flow_report.proofs.last.read_last.Goals as goal

pub returns : goal.returns
returns c =
    let sums = c.args.sums in
    let front : c.as_slice.result.now ≡ sums_text sums.flows sums.packets sums.octets = cc (c.as_slice.ensures.value, c.in_ok-add_sums.ensures, c.in_ok-front.ensures, c.into_bytes.ensures) in
    subst (λ (z : List ℕ). EndsInTotals z c.args.text.now c.totals_after.result) front c.totals_after.ensures
