use Rattle.std.proofs.Common.{◌≡◌, ◌++◌, All, take}
use Rattle.std.specs.List.{flat_map}
use Rattle.flow_report.specs.Ranges.{IsFlowInRange}
use Rattle.flow_report.specs.Text.{flow_line}
use Rattle.flow_report.proofs.text.add_flows.Given as goal

abbrev pub invariant-loop-flow : goal.invariant-loop-flow
invariant-loop-flow l = record {
  lines : l.text ≡ l.fn.text ++ flat_map flow_line (take l.flow-index l.flows);
  in_range : All IsFlowInRange (take l.flow-index l.flows);
}
