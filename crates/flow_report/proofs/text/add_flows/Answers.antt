use Rattle.std.proofs.Common.{arith}
use Rattle.std.proofs.lemmas.Grind.{common_steps}
use Rattle.std.proofs.lemmas.List.Elements.{All-more}
use Rattle.flow_report.specs.Ranges.{IsFlowInRange}
use Rattle.flow_report.proofs.text.add_flows.Goals as goal

pub loop-flow-preserved : goal.loop-flow-preserved
loop-flow-preserved c = record {
  lines = grind (arith, common_steps);
  in_range = All-more IsFlowInRange c.args.flows.now c.loop-flow.flow-index _ c.loop-flow-test.true c.loop-flow.invariant.in_range c.in_ok-add_flow.ensures.in_range;
}
