use Rattle.std.proofs.Common.{◌≡◌, ◌++◌, take, map}
use Rattle.std.specs.List.{flat_map}
use Rattle.netflow_five.specs.Encoding.{record_bytes}
use Rattle.netflow_five.specs.Record.{record_of}
use Rattle.netflow_five.proofs.encoding.add_records.Given as goal

abbrev pub invariant-loop-flow : goal.invariant-loop-flow
invariant-loop-flow l = record {
  added : l.bytes.items ≡ l.fn.bytes.items ++ flat_map record_bytes (take l.flow-index l.flows);
  read_back : map record_of (map record_bytes (take l.flow-index l.flows)) ≡ take l.flow-index l.flows;
}
