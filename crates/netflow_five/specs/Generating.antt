-- The datagrams that the generator makes, from a start and their number.
use Rattle.std.specs.Prelude.{ℕ, ◌+◌, ◌*◌, ◌/◌, ◌%◌, ◌^◌, ◌==◌, zero, suc, List, [], ◌∷◌, ◌++◌, map, if◌then◌else◌}
use Rattle.std.specs.List.{flat_map}
use Rattle.netflow_five.specs.Encoding.{header_bytes, record_bytes}
use Rattle.netflow_five.specs.declared.header.Header.{Header}
use Rattle.netflow_five.specs.declared.record.FlowRecord.{FlowRecord}

-- the number that comes after x: a linear congruential step, with Knuth's multiplier and increment of MMIX
abbrev pub mixed : ℕ → ℕ
mixed x = (x * 6364136223846793005 + 1442695040888963407) % 2 ^ 64

-- the number so many steps after the start
abbrev pub number_after : ℕ → ℕ → ℕ
number_after start zero = start
number_after start (suc j) = mixed (number_after start j)

-- the record j of the number x: one of 1,024 flows, by x modulo 1024
unfoldable pub drawn_flow : ℕ → ℕ → FlowRecord
drawn_flow j x = record {
  srcaddr = 167772160 + x % 1024;
  dstaddr = 3221225984 + x % 1024 % 256;
  nexthop = 0;
  input = x % 1024 % 4 + 1;
  output = 0;
  d_pkts = j % 8 + 1;
  d_octets = 100 * (j % 8 + 1);
  first = x / 2 ^ 40;
  last = x / 2 ^ 40 + x / 2 ^ 32 % 256;
  srcport = 1024 + x % 1024;
  dstport = 443;
  pad1 = 0;
  tcp_flags = 24;
  prot = if x % 2 == 0 then 6 else 17;
  tos = 0;
  src_as = 0;
  dst_as = 0;
  src_mask = 0;
  dst_mask = 0;
  pad2 = 0;
}

-- the record j of the file, from 0
abbrev pub flow_at : ℕ → ℕ → FlowRecord
flow_at start j = drawn_flow j (number_after start (suc j))

-- how many records the datagram i has
abbrev pub count_at : ℕ → ℕ
count_at i = i % 30 + 1

-- how many records the datagrams before i have
abbrev pub records_before : ℕ → ℕ
records_before zero = 0
records_before (suc i) = records_before i + count_at i

-- n numbers from m on
abbrev pub numbers_from : ℕ → ℕ → List ℕ
numbers_from m zero = []
numbers_from m (suc n) = m ∷ numbers_from (suc m) n

unfoldable pub header_at : ℕ → Header
header_at i = record {
  sys_uptime = 20000000 + i;
  unix_secs = 1700000000 + i;
  unix_nsecs = 0;
  flow_sequence = records_before i;
  engine_type = 0;
  engine_id = 0;
  sampling = 0;
}

-- the datagram i: its records follow those of the datagrams before it
abbrev pub datagram_at : ℕ → ℕ → List ℕ
datagram_at start i = header_bytes (header_at i) (count_at i) ++ flat_map record_bytes (map (flow_at start) (numbers_from (records_before i) (count_at i)))

-- the first so many datagrams, one after the other
abbrev pub generated : ℕ → ℕ → List ℕ
generated start datagrams = flat_map (datagram_at start) (numbers_from 0 datagrams)
