use Rattle.std.proofs.Common.{◌≡◌, ◌+◌, ◌∙◌, length, List, None, Some, Err, sym, ap, subst, inl}
use Rattle.flow_fold.specs.Flows.{Flows}
use Rattle.netflow_five.specs.declared.engine_line.EngineLine.{EngineLine}
use Rattle.flow_report.specs.declared.report_end.ReportEnd.TheVariants.{BadLine}
use Rattle.flow_report.specs.ReadBack.{HasGoodLines, IsReport, IsBadLine}
use Rattle.flow_report.specs.Reading.{EndsInTotals}
use Rattle.flow_report.proofs.Reports.{sums_of, counted_sums, report_from_last, bad_line_without_last, same_report, report_is_good, same_bad_line}
use Rattle.flow_report.proofs.read_back.read_report.Goals as goal

bad : (c : goal.After-drop-flows-in_default) → IsBadLine c.args.bytes.now (c.in_ok-sums.sums.flows + c.len.result + 1)
bad c =
    let flows = c.read_flows.new.flows.items in
    let engines = c.read_engines.new.engines.items in
    let rest = c.in_ok-last.last.now in
    let lines = c.in_ok-sums.ensures in
    let good : HasGoodLines c.args.bytes.now flows engines rest = record { behind_flows = c.in_ok-sums.behind.now; flow_lines = lines.lines; engine_lines = c.in_ok-last.ensures } in
    let last = counted_sums flows _ _ _ rest c.in_ok-totals.field-0 lines.flows lines.packets lines.octets c.in_ok-totals.ensures in
    let none : EndsInTotals (sums_of flows) rest None = subst (EndsInTotals (sums_of flows) rest) c.in_default.is last in
    let count : c.len.result ≡ length engines = c.len.ensures ∙ c.read_engines.new.engines.ok.0 in
    subst (λ n. IsBadLine c.args.bytes.now (n + 1)) (λ i. sym lines.flows i + sym count i) (bad_line_without_last c.args.bytes.now flows engines rest good none)

report : (c : goal.After-of_vec-engines) → IsReport c.args.bytes.now c.of_vec-flows.result c.of_vec-engines.result c.in-Some.totals
report c =
    let flows = c.read_flows.new.flows.items in
    let engines = c.read_engines.new.engines.items in
    let rest = c.in_ok-last.last.now in
    let lines = c.in_ok-sums.ensures in
    let good : HasGoodLines c.args.bytes.now flows engines rest = record { behind_flows = c.in_ok-sums.behind.now; flow_lines = lines.lines; engine_lines = c.in_ok-last.ensures } in
    let last = counted_sums flows _ _ _ rest c.in_ok-totals.field-0 lines.flows lines.packets lines.octets c.in_ok-totals.ensures in
    let some : EndsInTotals (sums_of flows) rest (Some c.in-Some.totals) = subst (EndsInTotals (sums_of flows) rest) c.in-Some.is last in
    subst (λ (z : Flows × List EngineLine). IsReport c.args.bytes.now z.0 z.1 c.in-Some.totals) (λ i. (sym c.of_vec-flows.ensures i, sym c.of_vec-engines.ensures i))
    (report_from_last c.args.bytes.now flows engines rest c.in-Some.totals good some)

pub returns-in_default-clause-bad_line : goal.returns-in_default-clause-bad_line
returns-in_default-clause-bad_line c = λ line is. subst (IsBadLine c.args.bytes.now) (cc is) (bad c)

pub returns-in_default-clause-reads_each_report : goal.returns-in_default-clause-reads_each_report
returns-in_default-clause-reads_each_report c = λ flows engines totals other.
    absurd (report_is_good c.args.bytes.now flows engines totals (c.in_ok-sums.sums.flows + c.len.result + 1) other (bad c))

pub returns-in_default-clause-finds_each_bad_line : goal.returns-in_default-clause-finds_each_bad_line
returns-in_default-clause-finds_each_bad_line c = λ line other.
    inl (ap (λ n. Err (BadLine n)) (same_bad_line c.args.bytes.now (c.in_ok-sums.sums.flows + c.len.result + 1) line (bad c) other))

pub returns-clause-ok : goal.returns-clause-ok
returns-clause-ok c = report c

pub returns-clause-reads_each_report : goal.returns-clause-reads_each_report
returns-clause-reads_each_report c = λ flows engines totals other.
    same_report c.args.bytes.now c.of_vec-flows.result flows c.of_vec-engines.result engines c.in-Some.totals totals (report c) other

pub returns-clause-finds_each_bad_line : goal.returns-clause-finds_each_bad_line
returns-clause-finds_each_bad_line c = λ line other.
    absurd (report_is_good c.args.bytes.now c.of_vec-flows.result c.of_vec-engines.result c.in-Some.totals line (report c) other)
