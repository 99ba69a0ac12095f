use Rattle.std.proofs.Common.{refl, arith}
use Rattle.flow_report.proofs.LastParts.{totals_by_parts, records_free}
use Rattle.flow_report.proofs.Spellings.{none_by_parts, none_first, none_second, both_begin, begins_by_parts}
use Rattle.flow_report.proofs.last.read_totals.Goals as goal

pub returns-in_err-records : goal.returns-in_err-records
returns-in_err-records c = rw c.from_residual.ensures (none_by_parts totals_by_parts (none_first _ _ c.in_err-records.ensures))

pub returns-in_err-datagrams : goal.returns-in_err-datagrams
returns-in_err-datagrams c = rw c.from_residual-in_err-datagrams.ensures (none_by_parts totals_by_parts (none_second records_free c.in_ok-records.ensures c.in_err-datagrams.ensures))

pub returns : goal.returns
returns c =
    let records = c.in_ok-records.ensures in
    let datagrams = c.in_ok-datagrams.ensures in
    begins_by_parts totals_by_parts _ refl record { records = omega (arith, records.in_range); datagrams = omega (arith, datagrams.in_range) } (both_begin records datagrams)
