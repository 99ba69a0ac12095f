-- The fields of a record of 48 bytes.
use Rattle.std.specs.Prelude.{ℕ, List}
use Rattle.netflow_five.specs.Field.{field}
use Rattle.netflow_five.specs.declared.record.FlowRecord.{FlowRecord}

unfoldable pub record_of : List ℕ → FlowRecord
record_of r = record {
  srcaddr = field 0 4 r;
  dstaddr = field 4 4 r;
  nexthop = field 8 4 r;
  input = field 12 2 r;
  output = field 14 2 r;
  d_pkts = field 16 4 r;
  d_octets = field 20 4 r;
  first = field 24 4 r;
  last = field 28 4 r;
  srcport = field 32 2 r;
  dstport = field 34 2 r;
  pad1 = field 36 1 r;
  tcp_flags = field 37 1 r;
  prot = field 38 1 r;
  tos = field 39 1 r;
  src_as = field 40 2 r;
  dst_as = field 42 2 r;
  src_mask = field 44 1 r;
  dst_mask = field 45 1 r;
  pad2 = field 46 2 r;
}
