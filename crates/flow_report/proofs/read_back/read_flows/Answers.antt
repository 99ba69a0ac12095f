use Rattle.std.proofs.Common.{sym, subst, arith}
use Rattle.std.proofs.lemmas.List.{length_push}
use Rattle.std.proofs.lemmas.List.Sums.{sum_by_push}
use Rattle.flow_fold.specs.Flows.{Flows, HasRisingKeys}
use Rattle.flow_fold.specs.declared.key.Key.{Key}
use Rattle.flow_fold.specs.declared.value.Value.{Value}
use Rattle.flow_report.specs.Ranges.{IsFlowInRange}
use Rattle.flow_report.specs.ReadBack.{HasLines, IsNextFlow}
use Rattle.flow_report.specs.Reading.{BeginsWith, BeginsWithNone}
use Rattle.flow_report.specs.Text.{flow_line}
use Rattle.flow_report.proofs.Fronts.{no_lines, one_more_line, no_more_lines, line_shortens}
use Rattle.flow_report.proofs.LineKinds.{flow_kind}
use Rattle.flow_report.proofs.read_back.read_flows.Goals as goal

pub loop-flow-init : goal.loop-flow-init
loop-flow-init c =
    let bytes = c.args.bytes.now in
    record {
      front = subst (λ (z : Flows). HasLines flow_line IsFlowInRange HasRisingKeys bytes z bytes) (sym c.requires) (no_lines flow_kind bytes);
      flows = rw c.requires c.none-sums.ensures.flows;
      packets = rw c.requires c.none-sums.ensures.packets;
      octets = rw c.requires c.none-sums.ensures.octets;
    }

pub loop-flow-smaller : goal.loop-flow-smaller
loop-flow-smaller c = line_shortens flow_kind _ c.loop-flow.rest.now c.in-Some.after.now c.in-Some.flow c.in-Some.ensures

pub loop-flow-preserved : goal.loop-flow-preserved
loop-flow-preserved c =
    let flows = c.loop-flow.flows.items in
    let flow = c.in-Some.flow in
    let next : BeginsWith flow_line (IsNextFlow flows) c.loop-flow.rest.now flow c.in-Some.after.now =
    subst (λ (z : Flows). BeginsWith flow_line (IsNextFlow z) c.loop-flow.rest.now flow c.in-Some.after.now) c.as_slice.ensures.value c.in-Some.ensures in
    record {
      front = rw c.in_ok-push.ensures.items (one_more_line flow_kind c.args.bytes.now flows c.loop-flow.rest.now flow c.in-Some.after.now c.loop-flow.invariant.front next);
      flows = rw c.in_ok-push.ensures.items (omega (arith, c.with-sums.ensures.flows, c.loop-flow.invariant.flows, length_push flows flow));
      packets = rw c.in_ok-push.ensures.items (omega (arith, c.with-sums.ensures.packets, c.loop-flow.invariant.packets, sum_by_push (λ (f : Key × Value). f.1.packets) flows flow));
      octets = rw c.in_ok-push.ensures.items (omega (arith, c.with-sums.ensures.octets, c.loop-flow.invariant.octets, sum_by_push (λ (f : Key × Value). f.1.octets) flows flow));
    }

pub returns-clause-lines : goal.returns-clause-lines
returns-clause-lines c =
    let flows = c.loop-flow.flows.items in
    let none : BeginsWithNone flow_line (IsNextFlow flows) c.loop-flow.rest.now =
    subst (λ (z : Flows). BeginsWithNone flow_line (IsNextFlow z) c.loop-flow.rest.now) c.as_slice.ensures.value c.in_default.ensures in
    no_more_lines flow_kind c.args.bytes.now flows c.loop-flow.rest.now c.loop-flow.invariant.front none
