use Rattle.std.proofs.Common.{◌≡◌, ◌∙◌, ◌≤◌, ◌^◌, List, length, map, ap, sym, subst, arith}
use Rattle.std.proofs.lemmas.List.{length-map}
use Rattle.flow_fold.specs.Flows.{Flows}
use Rattle.flow_fold.specs.Pair.{pairs_of}
use Rattle.flow_report.specs.declared.totals.Totals.{Totals}
use Rattle.netflow_five.specs.File.{all_records}
use Rattle.netflow_five.specs.Mark.{mark_of}
use Rattle.netflow_five.specs.declared.seq_mark.SeqMark.{SeqMark}
use Rattle.flow_tally.specs.TallyOutcome.{IsTextOf}
use Rattle.flow_tally.specs.Words.{source_in}
use Rattle.flow_fold.proofs.Pairs.{length-pairs_of}
use Rattle.flow_tally.proofs.Gathering.{few_gathered, few_marks}
use Rattle.flow_tally.proofs.tally.answer_of.Goals as goal
use Rattle.tally_core.specs.Adding.{IsTallied, plan_of_tally}

pub returns-in-Ok-print : goal.returns-in-Ok-print
returns-in-Ok-print g c = λ contents ds is.
    let flows = c.in-Ok.tallied.flows in
    let words = c.args.words.now in
    let (made, few) = c.in-Ok.ensures.tallied in
    let pairs : c.deref.result.now ≡ pairs_of ds = c.deref.ensures.value ∙ is.all.pairs in
    let marks : c.deref-2.result.now ≡ map mark_of ds = c.deref-2.ensures.value ∙ is.all.marks in
    let added = subst (λ (z : Flows). IsTallied (plan_of_tally z words.workers words.flows words.buckets) z flows c.in-Ok.tallied.closed c.in-Ok.tallied.draws) pairs made in
    let records : c.len.result ≡ length (all_records ds) = omega (arith, c.len.ensures, ap length is.all.pairs, length-pairs_of ds) in
    let datagrams : c.len-2.result ≡ length ds = omega (arith, c.len-2.ensures, ap length is.all.marks, length-map ds mark_of) in
    let text = subst (λ (z : List SeqMark × Flows × Totals). IsTextOf (source_in words.source) z.0 z.1 z.2 c.in-Ok-print.text.items)
    (λ i. (marks i, c.as_slice.ensures i, record { records = records i; datagrams = datagrams i })) c.in-Ok-print.ensures in
    (flows, record { good = is.good; file = is.file; rising = added.rising; fold = added.fold }, few, (c.in-Ok.tallied.draws, added), text)

pub tally-requires-clause-few : goal.tally-requires-clause-few
tally-requires-clause-few g c _ _ =
    let (contents, ds, is) = c.requires.past in
    subst (λ (z : Flows). length z ≤ 2 ^ 23) (sym c.deref.ensures.value) (few_gathered is)

pub print-requires-clause-few : goal.print-requires-clause-few
print-requires-clause-few g c =
    let (contents, ds, is) = c.requires.past in
    subst (λ (z : List SeqMark). length z ≤ 4194304) (sym c.deref-2.ensures.value) (few_marks is)
