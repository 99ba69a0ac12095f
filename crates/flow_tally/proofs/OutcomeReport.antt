-- What can be tallied has one tally and one report.
use Rattle.std.proofs.Common.{◌≡◌, ◌∙◌, ℕ, Some, List, length, map, refl, sym, ap, subst, arith}
use Rattle.wire_ports.specs.Ports.{Names}
use Rattle.netflow_five.specs.File.{joined}
use Rattle.netflow_five.specs.Mark.{mark_of}
use Rattle.netflow_five.specs.declared.engine_line.EngineLine.{EngineLine}
use Rattle.netflow_five.specs.declared.seq_mark.SeqMark.{SeqMark}
use Rattle.netflow_five.proofs.Files.{one_list}
use Rattle.netflow_five.proofs.OneList.{losses_unique, some_losses}
use Rattle.flow_fold.specs.Flows.{Flows, value_in}
use Rattle.flow_fold.specs.Fold.{IsFold}
use Rattle.flow_fold.specs.Pair.{pairs_of}
use Rattle.flow_fold.proofs.Folds.{fold_list_unique}
use Rattle.flow_report.specs.Text.{last_line_of, report_text}
use Rattle.flow_report.specs.declared.totals.Totals.{Totals}
use Rattle.flow_tally.specs.TallyOutcome.{IsTally, IsTextOf, totals_of, IsPrinted, HasTooManyFlows}
use Rattle.flow_tally.specs.Words.{Source, Files, Generated, Tally}
use Rattle.flow_tally.proofs.Sources.{one_contents}

-- contents have one list of datagrams, and these one list of flows
pub one_tally : (contents ds others es : List (List ℕ)) (xs ys : Flows) → contents ≡ others → IsTally contents ds xs → IsTally others es ys → (ds ≡ es) × (xs ≡ ys)
one_tally contents ds others es xs ys same a b =
    let one = one_list ds es a.file.each b.file.each (sym a.file.whole ∙ ap joined same ∙ b.file.whole) in
    let fold = subst (λ (z : List (List ℕ)). IsFold (pairs_of z) (value_in xs)) one a.fold in
    (one, fold_list_unique (pairs_of es) xs ys a.rising b.rising fold b.fold)

module _ (marks : List SeqMark) (flows : Flows) (totals : Totals) where
  -- something is printed of flows and datagrams
  pub some_text : (source : Source) → (text : List ℕ) × IsTextOf source marks flows totals text
  some_text (Files files) = let lines = some_losses marks in (report_text flows lines.0 totals, (lines.0, lines.1, refl))
  some_text (Generated start datagrams) = (last_line_of flows totals, refl)

  -- and that is one text
  one_text : (source : Source) (a b : List ℕ) → IsTextOf source marks flows totals a → IsTextOf source marks flows totals b → a ≡ b
  one_text (Files files) a b (lines, losses, text) (others, also, words) =
      text ∙ ap (λ (z : List EngineLine). report_text flows z totals) (losses_unique marks lines others losses also) ∙ sym words
  one_text (Generated start datagrams) a b text words = text ∙ sym words

-- the text of a report is one
pub one_report : (tally : Tally) (names : Names) (a b : List ℕ) → IsPrinted tally (Some names) a → IsPrinted tally (Some names) b → a ≡ b
one_report tally names a b (contents, ds, xs, told, made, few, text) (others, es, ys, also, done, small, words) =
    let both = one_tally contents ds others es xs ys (one_contents names tally.source contents others told also) made done in
    let same = subst (λ (z : List (List ℕ) × Flows). IsTextOf tally.source (map mark_of z.0) z.1 (totals_of z.0) a) (λ i. (both.0 i, both.1 i)) text in
    one_text (map mark_of es) ys (totals_of es) tally.source a b same words

-- where there is a report there aren't too many flows
pub report_not_many : (tally : Tally) (names : Names) (a : List ℕ) → IsPrinted tally (Some names) a → HasTooManyFlows tally (Some names) → ⊥
report_not_many tally names a (contents, ds, xs, told, made, few, text) (others, es, ys, also, done, many) =
    let both = one_tally contents ds others es xs ys (one_contents names tally.source contents others told also) made done in
    omega (arith, few, many, ap length both.1)
