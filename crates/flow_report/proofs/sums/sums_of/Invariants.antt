use Rattle.std.proofs.Common.{◌≡◌, take}
use Rattle.flow_report.specs.Sums.{packets_of, octets_of}
use Rattle.flow_report.proofs.sums.sums_of.Given as goal

abbrev pub invariant-loop-flow : goal.invariant-loop-flow
invariant-loop-flow l = record {
  flows : l.sums.flows ≡ l.flow-index;
  packets : l.sums.packets ≡ packets_of (take l.flow-index l.flows);
  octets : l.sums.octets ≡ octets_of (take l.flow-index l.flows);
}
