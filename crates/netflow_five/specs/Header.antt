-- The fields of a datagram's header of 24 bytes. Bytes 0 to 3 are the version and the count.
use Rattle.std.specs.Prelude.{ℕ, List}
use Rattle.netflow_five.specs.Field.{field}
use Rattle.netflow_five.specs.declared.header.Header.{Header}

unfoldable pub header_of : List ℕ → Header
header_of d = record {
  sys_uptime = field 4 4 d;
  unix_secs = field 8 4 d;
  unix_nsecs = field 12 4 d;
  flow_sequence = field 16 4 d;
  engine_type = field 20 1 d;
  engine_id = field 21 1 d;
  sampling = field 22 2 d;
}
