-- The key and the value of a record.
use Rattle.std.specs.Prelude.{ℕ, ◌+◌, ◌*◌, ◌^◌, List, map}
use Rattle.std.specs.List.{flat_map}
use Rattle.netflow_five.specs.Datagram.{records_of}
use Rattle.netflow_five.specs.Header.{header_of}
use Rattle.netflow_five.specs.declared.header.Header.{Header}
use Rattle.netflow_five.specs.declared.record.FlowRecord.{FlowRecord}
use Rattle.flow_fold.specs.declared.key.Key.{Key}
use Rattle.flow_fold.specs.declared.value.Value.{Value}
use Rattle.flow_fold.specs.Flows.{Flows}
use Rattle.flow_fold.specs.Moment.{moment}

-- the addresses; and the ports, the protocol, the type of service and the input interface
abbrev pub record_key : FlowRecord → Key
record_key r = record {
  k0 = r.srcaddr * 2 ^ 32 + r.dstaddr;
  k1 = r.srcport * 2 ^ 48 + r.dstport * 2 ^ 32 + r.prot * 2 ^ 24 + r.tos * 2 ^ 16 + r.input;
}

-- what a record under this header has of packets and octets, the moments of its first and last packet, and its TCP flags
abbrev pub record_value : Header → FlowRecord → Value
record_value header r = record {
  packets = r.d_pkts;
  octets = r.d_octets;
  first = moment header r.first;
  last = moment header r.last;
  flags = r.tcp_flags;
}

-- the key and the value of each of these records under one header, in order
unfoldable pub pairs_under : Header → List FlowRecord → Flows
pairs_under header records = map (λ r. (record_key r, record_value header r)) records

-- the key and the value of each record of the datagrams, in order, each under its datagram's header
unfoldable pub pairs_of : List (List ℕ) → Flows
pairs_of ds = flat_map (λ d. pairs_under (header_of d) (records_of d)) ds
