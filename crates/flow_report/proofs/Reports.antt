-- What bytes are a report of, and where they cease to be one.
use Rattle.std.specs.List.{flat_map, count_by}
use Rattle.std.proofs.Common.{◌≡◌, ℕ, ◌<◌, ◌≤◌, ◌+◌, ◌/◌, ◌^◌, List, [], ◌∷◌, ◌++◌, Option, Some, None, length, get_or, decimal, append_assoc, ap}
use Rattle.std.proofs.Common.{refl, sym, subst, ◌∙◌, arith, eqb}
use Rattle.std.proofs.lemmas.List.{append_cancel_left, append-nil}
use Rattle.std.proofs.lemmas.Str.Parse.{digit_at}
use Rattle.flow_fold.specs.Flows.{Flows}
use Rattle.flow_fold.specs.declared.key.Key.{Key}
use Rattle.flow_fold.specs.declared.value.Value.{Value}
use Rattle.netflow_five.specs.declared.engine_line.EngineLine.{EngineLine}
use Rattle.flow_report.specs.declared.totals.Totals.{Totals}
use Rattle.flow_report.specs.Ranges.{IsFlowInRange}
use Rattle.flow_report.specs.ReadBack.{IsReport, HasGoodLines, HasJustEngineLines, IsBadLine}
use Rattle.flow_report.specs.Reading.{EndsInTotals}
use Rattle.flow_report.specs.Sums.{packets_of, octets_of}
use Rattle.flow_report.specs.Text.{flow_line, engine_text, key_text, words_then, dotted, sums_text, totals_text, last_line, report_text, named, line_feed}
use Rattle.decimal_text.proofs.Decimals.{spelling_digits}
use Rattle.flow_report.proofs.Fronts.{no_more_lines, same_only}
use Rattle.flow_report.proofs.LineKinds.{flow_kind, engine_kind}
use Rattle.flow_report.proofs.LastParts.{totals_free}
use Rattle.flow_report.proofs.LineFeeds.{feeds_are_rows}

-- the last line of a report of these flows, without its totals
abbrev pub sums_of : Flows → List ℕ
sums_of flows = sums_text (length flows) (packets_of flows) (octets_of flows)

-- what stands behind the lines of flows
abbrev behind : Flows → List EngineLine → Totals → List ℕ
behind flows engines totals = flat_map engine_text engines ++ (sums_of flows ++ totals_text totals)

report_is : (flows : Flows) (engines : List EngineLine) (totals : Totals) → report_text flows engines totals ≡ flat_map flow_line flows ++ behind flows engines totals
unfolding report_text last_line
report_is flows engines totals = refl

-- the bytes, by their good lines
good_bytes : (bytes : List ℕ) (flows : Flows) (engines : List EngineLine) (rest : List ℕ) → HasGoodLines bytes flows engines rest
    → bytes ≡ flat_map flow_line flows ++ (flat_map engine_text engines ++ rest)
good_bytes bytes flows engines rest good =
    good.flow_lines.front.lines ∙ ap (λ (z : List ℕ). flat_map flow_line flows ++ z) good.engine_lines.front.lines

-- good lines and a last line are a report
pub report_from_last : (bytes : List ℕ) (flows : Flows) (engines : List EngineLine) (rest : List ℕ) (totals : Totals) → HasGoodLines bytes flows engines rest
    → EndsInTotals (sums_of flows) rest (Some totals) → IsReport bytes flows engines totals
report_from_last bytes flows engines rest totals good last = record {
  text = good_bytes bytes flows engines rest good ∙ ap (λ (z : List ℕ). flat_map flow_line flows ++ (flat_map engine_text engines ++ z)) last.1 ∙ sym (report_is flows engines totals);
  rising = good.flow_lines.front.rising;
  engines_rising = good.engine_lines.front.rising;
  flows_in_range = good.flow_lines.front.in_range;
  engines_in_range = good.engine_lines.front.in_range;
  totals_in_range = last.0;
}

-- good lines with no last line are none
no_report_without_last : (bytes : List ℕ) (flows : Flows) (engines : List EngineLine) (rest : List ℕ) → HasGoodLines bytes flows engines rest
    → EndsInTotals (sums_of flows) rest None → (totals : Totals) → ¬ IsReport bytes flows engines totals
no_report_without_last bytes flows engines rest good none totals report =
    let lines = append_cancel_left (flat_map flow_line flows) (flat_map engine_text engines ++ rest) (behind flows engines totals)
    (sym (good_bytes bytes flows engines rest good) ∙ report.text ∙ report_is flows engines totals) in
    none totals report.totals_in_range (append_cancel_left (flat_map engine_text engines) rest (sums_of flows ++ totals_text totals) lines)

-- the sums that were counted are those of the flows
pub counted_sums : (flows : Flows) (count packets octets : ℕ) (rest : List ℕ) (totals : Option Totals) → count ≡ length flows → packets ≡ packets_of flows → octets ≡ octets_of flows
    → EndsInTotals (sums_text count packets octets) rest totals → EndsInTotals (sums_of flows) rest totals
counted_sums flows count packets octets rest totals count_is packets_is octets_is =
    subst (λ (z : List ℕ). EndsInTotals z rest totals) (λ i. sums_text (count_is i) (packets_is i) (octets_is i))

pub bad_line_without_last : (bytes : List ℕ) (flows : Flows) (engines : List EngineLine) (rest : List ℕ) → HasGoodLines bytes flows engines rest
    → EndsInTotals (sums_of flows) rest None → IsBadLine bytes (length flows + length engines + 1)
bad_line_without_last bytes flows engines rest good none = (
  flows,
  engines,
  rest,
  good,
  no_report_without_last bytes flows engines rest good none,
  ap (λ n. n + 1) (sym (feeds_are_rows flows engines good.flow_lines.front.in_range good.engine_lines.front.in_range)),
)

-- a text begins with a digit, or a byte below
record BeginsLow (text : List ℕ) : Type 0 where
  first : ℕ
  rest : List ℕ
  is : text ≡ first ∷ rest
  low : first ≤ 57

low_front : {xs : List ℕ} (ys : List ℕ) → BeginsLow xs → BeginsLow (xs ++ ys)
low_front ys h = record { first = h.first; rest = h.rest ++ ys; is = ap (λ (z : List ℕ). z ++ ys) h.is; low = h.low }

low_from_length : (xs : List ℕ) → 0 < length xs → get_or xs 0 0 ≤ 57 → BeginsLow xs
low_from_length [] some low = absurd (omega arith)
low_from_length (x ∷ xs) some low = record { first = x; rest = xs; is = refl; low = low }

decimal_low : (n : ℕ) → n < 2 ^ 64 → BeginsLow (decimal n)
decimal_low n small =
    let digits = spelling_digits (decimal n) n small refl in
    low_from_length (decimal n) digits.1 (digit_at (decimal n) 0 digits.0 digits.1).1

line_low : (flow : Key × Value) (after : List ℕ) → IsFlowInRange flow → BeginsLow (flow_line flow ++ after)
unfolding flow_line key_text words_then dotted
line_low flow after in_range =
    let k0 = in_range.0.k0 in
    low_front _ (low_front _ (low_front _ (low_front _ (low_front _ (decimal_low (flow.0.k0 / 2 ^ 32 / 2 ^ 24) (omega arith))))))

-- the last line begins with one letter, and an engine's line with another
sums_first : (flows : Flows) (after : List ℕ) → get_or (sums_of flows ++ after) 0 0 ≡ 102
unfolding sums_text words_then named
sums_first flows after = refl

engine_first : (line : EngineLine) (after : List ℕ) → get_or (engine_text line ++ after) 0 0 ≡ 101
unfolding engine_text words_then named
engine_first line after = refl

behind_high : (flows : Flows) (engines : List EngineLine) (totals : Totals) → 101 ≤ get_or (behind flows engines totals) 0 0
behind_high flows [] totals =
    let first : get_or (behind flows [] totals) 0 0 ≡ 102 = sums_first flows (totals_text totals) in
    omega arith
behind_high flows (e ∷ engines) totals =
    let first : get_or (behind flows (e ∷ engines) totals) 0 0 ≡ 101 =
    ap (λ (z : List ℕ). get_or z 0 0) (append_assoc (engine_text e) (flat_map engine_text engines) (sums_of flows ++ totals_text totals)) ∙ engine_first e (behind flows engines totals) in
    omega arith

-- behind the lines of flows no further one begins
no_flow_behind : (flows : Flows) (engines : List EngineLine) (totals : Totals) (flow : Key × Value) (rest : List ℕ) → IsFlowInRange flow → behind flows engines totals ≡ flow_line flow ++ rest → ⊥
no_flow_behind flows engines totals flow rest in_range is =
    let line = line_low flow rest in_range in
    let low = line.low in
    omega (arith, behind_high flows engines totals, ap (λ (z : List ℕ). get_or z 0 0) (is ∙ line.is))

-- no engine's line is the front of a last line
engine_is_not_last : (flows : Flows) (line : EngineLine) (after rest : List ℕ) → sums_of flows ++ after ≡ engine_text line ++ rest → ⊥
engine_is_not_last flows line after rest is = omega (arith, sums_first flows after, engine_first line rest, ap (λ (z : List ℕ). get_or z 0 0) is)

-- the good lines of a report are those of its flows and engines
report_good : (bytes : List ℕ) (flows : Flows) (engines : List EngineLine) (totals : Totals) → IsReport bytes flows engines totals
    → HasGoodLines bytes flows engines (sums_of flows ++ totals_text totals)
report_good bytes flows engines totals report = record {
  behind_flows = behind flows engines totals;
  flow_lines = no_more_lines flow_kind bytes flows (behind flows engines totals)
      record { lines = report.text ∙ report_is flows engines totals; rising = report.rising; in_range = report.flows_in_range }
      record { none = λ flow rest in_range is. no_flow_behind flows engines totals flow rest in_range.0 is };
  engine_lines = no_more_lines engine_kind (behind flows engines totals) engines (sums_of flows ++ totals_text totals)
      record { lines = refl; rising = report.engines_rising; in_range = report.engines_in_range }
      record { none = λ line rest in_range is. engine_is_not_last flows line (totals_text totals) rest is };
}

-- bytes have one row of good lines
same_good : (bytes : List ℕ) (flows others : Flows) (engines more : List EngineLine) (rest after : List ℕ) → HasGoodLines bytes flows engines rest → HasGoodLines bytes others more after
    → (flows ≡ others) × (engines ≡ more)
same_good bytes flows others engines more rest after first second =
    let on = same_only flow_kind bytes flows others first.behind_flows second.behind_flows first.flow_lines second.flow_lines in
    let lines : HasJustEngineLines second.behind_flows engines rest = subst (λ (z : List ℕ). HasJustEngineLines z engines rest) on.1 first.engine_lines in
    (on.0, (same_only engine_kind second.behind_flows engines more rest after lines second.engine_lines).0)

-- bytes are one report at most
pub same_report : (bytes : List ℕ) (flows others : Flows) (engines more : List EngineLine) (totals found : Totals) → IsReport bytes flows engines totals → IsReport bytes others more found
    → (flows ≡ others) × (engines ≡ more) × (totals ≡ found)
same_report bytes flows others engines more totals found first second =
    let same = same_good bytes flows others engines more (sums_of flows ++ totals_text totals) (sums_of others ++ totals_text found)
    (report_good bytes flows engines totals first) (report_good bytes others more found second) in
    let text : report_text flows engines totals ≡ report_text flows engines found =
    sym first.text ∙ second.text ∙ (λ i. report_text (sym same.0 i) (sym same.1 i) found) in
    let lines = append_cancel_left (flat_map flow_line flows) (behind flows engines totals) (behind flows engines found)
    (sym (report_is flows engines totals) ∙ text ∙ report_is flows engines found) in
    let last = append_cancel_left (flat_map engine_text engines) (sums_of flows ++ totals_text totals) (sums_of flows ++ totals_text found) lines in
    let ends = append_cancel_left (sums_of flows) (totals_text totals) (totals_text found) last in
    let totals_is = totals_free.same totals found [] [] first.totals_in_range second.totals_in_range (append-nil (totals_text totals) ∙ ends ∙ sym (append-nil (totals_text found))) in
    (same.0, same.1, totals_is.0)

-- a report has no bad line
pub report_is_good : (bytes : List ℕ) (flows : Flows) (engines : List EngineLine) (totals : Totals) (line : ℕ) → IsReport bytes flows engines totals → IsBadLine bytes line → ⊥
report_is_good bytes flows engines totals line report bad =
    let same = same_good bytes flows bad.0 engines bad.1 (sums_of flows ++ totals_text totals) bad.2 (report_good bytes flows engines totals report) bad.3 in
    bad.4 totals (subst (λ (z : Flows × List EngineLine). IsReport bytes z.0 z.1 totals) (λ i. (same.0 i, same.1 i)) report)

-- one line is the first that is bad
pub same_bad_line : (bytes : List ℕ) (line other : ℕ) → IsBadLine bytes line → IsBadLine bytes other → line ≡ other
same_bad_line bytes line other first second =
    let same = same_good bytes first.0 second.0 first.1 second.1 first.2 second.2 first.3 second.3 in
    first.5 ∙ (λ i. count_by (λ b. eqb b line_feed) (flat_map flow_line (same.0 i) ++ flat_map engine_text (same.1 i)) + 1) ∙ sym second.5
