use Rattle.std.proofs.Common.{◌≡◌, length}
use Rattle.flow_report.specs.ReadBack.{HasLines}
use Rattle.flow_report.specs.Ranges.{IsFlowInRange}
use Rattle.flow_report.specs.Text.{flow_line}
use Rattle.flow_fold.specs.Flows.{HasRisingKeys}
use Rattle.flow_report.specs.Sums.{packets_of, octets_of}
use Rattle.flow_report.proofs.read_back.read_flows.Given as goal

abbrev pub invariant-loop-flow : goal.invariant-loop-flow
invariant-loop-flow l = record {
  front : HasLines flow_line IsFlowInRange HasRisingKeys l.bytes l.flows.items l.rest;
  flows : l.sums.flows ≡ length l.flows.items;
  packets : l.sums.packets ≡ packets_of l.flows.items;
  octets : l.sums.octets ≡ octets_of l.flows.items;
}

abbrev pub decreases-loop-flow : goal.decreases-loop-flow
decreases-loop-flow l = length l.rest
