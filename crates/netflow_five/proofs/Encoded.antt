-- What a header and records are written as reads back.
use Rattle.std.proofs.Common.{◌≡◌, ℕ, ◌*◌, ◌^◌, ◌<◌, ◌≤◌, List, [], ◌∷◌, ◌++◌, length, map, refl, ap, ap₂, ◌∙◌, arith}
use Rattle.std.specs.Int.{w16, w32, to_be_bytes}
use Rattle.std.specs.List.{flat_map}
use Rattle.std.proofs.lemmas.List.{length-append, take_at, drop_at}
use Rattle.std.proofs.lemmas.Nat.{from_be_bytes-to_be_bytes_2, from_be_bytes-to_be_bytes_4}
use Rattle.netflow_five.specs.Datagram.{IsDatagram, version_of, count_of, parts, records_of}
use Rattle.netflow_five.specs.Field.{number}
use Rattle.netflow_five.specs.Header.{header_of}
use Rattle.netflow_five.specs.Record.{record_of}
use Rattle.netflow_five.specs.Encoding.{route_bytes, traffic_bytes, transport_bytes, network_bytes, record_bytes, clock_bytes, exporter_bytes, header_bytes}
use Rattle.netflow_five.specs.Ranges.{RouteFits, TrafficFits, PortsFit, NetworkFits, ClockFits, ExporterFits}
use Rattle.netflow_five.specs.declared.header.Header.{Header}
use Rattle.netflow_five.specs.declared.record.FlowRecord.{FlowRecord}

-- a number is what its two bytes are read as
number-to_be_bytes_2 : (n : ℕ) → n < 2 ^ 16 → number (to_be_bytes w16 n) ≡ n
number-to_be_bytes_2 n fits = omega (arith, from_be_bytes-to_be_bytes_2 n fits)

-- and what its four bytes are
number-to_be_bytes_4 : (n : ℕ) → n < 2 ^ 32 → number (to_be_bytes w32 n) ≡ n
number-to_be_bytes_4 n fits = omega (arith, from_be_bytes-to_be_bytes_4 n fits)

-- and what its one byte is
number_1 : (n : ℕ) → number (n ∷ []) ≡ n
number_1 n = omega arith

-- what a record is written as is read as the record, where its numbers have room
pub record_of-record_bytes : (r : FlowRecord) → RouteFits r → TrafficFits r → PortsFit r → NetworkFits r → record_of (record_bytes r) ≡ r
unfolding record_of record_bytes route_bytes traffic_bytes transport_bytes network_bytes
record_of-record_bytes r route traffic ports network = λ i. record {
  srcaddr = number-to_be_bytes_4 r.srcaddr route.srcaddr i;
  dstaddr = number-to_be_bytes_4 r.dstaddr route.dstaddr i;
  nexthop = number-to_be_bytes_4 r.nexthop route.nexthop i;
  input = number-to_be_bytes_2 r.input route.input i;
  output = number-to_be_bytes_2 r.output route.output i;
  d_pkts = number-to_be_bytes_4 r.d_pkts traffic.d_pkts i;
  d_octets = number-to_be_bytes_4 r.d_octets traffic.d_octets i;
  first = number-to_be_bytes_4 r.first traffic.first i;
  last = number-to_be_bytes_4 r.last traffic.last i;
  srcport = number-to_be_bytes_2 r.srcport ports.srcport i;
  dstport = number-to_be_bytes_2 r.dstport ports.dstport i;
  pad1 = number_1 r.pad1 i;
  tcp_flags = number_1 r.tcp_flags i;
  prot = number_1 r.prot i;
  tos = number_1 r.tos i;
  src_as = number-to_be_bytes_2 r.src_as network.src_as i;
  dst_as = number-to_be_bytes_2 r.dst_as network.dst_as i;
  src_mask = number_1 r.src_mask i;
  dst_mask = number_1 r.dst_mask i;
  pad2 = number-to_be_bytes_2 r.pad2 network.pad2 i;
}

-- what a header is written as is read as the header, where its numbers have room
pub header_of-header_bytes : (h : Header) (count : ℕ) → ClockFits h → ExporterFits h → header_of (header_bytes h count) ≡ h
unfolding header_of header_bytes clock_bytes exporter_bytes
header_of-header_bytes h count clock exporter = λ i. record {
  sys_uptime = number-to_be_bytes_4 h.sys_uptime clock.sys_uptime i;
  unix_secs = number-to_be_bytes_4 h.unix_secs clock.unix_secs i;
  unix_nsecs = number-to_be_bytes_4 h.unix_nsecs clock.unix_nsecs i;
  flow_sequence = number-to_be_bytes_4 h.flow_sequence exporter.flow_sequence i;
  engine_type = number_1 h.engine_type i;
  engine_id = number_1 h.engine_id i;
  sampling = number-to_be_bytes_2 h.sampling exporter.sampling i;
}

-- the header, and the records one after the other
abbrev pub datagram_bytes : Header → List FlowRecord → List ℕ
datagram_bytes header flows = header_bytes header (length flows) ++ flat_map record_bytes flows

-- the bytes of a record are 48
length-record_bytes : (r : FlowRecord) → length (record_bytes r) ≡ 48
unfolding record_bytes route_bytes traffic_bytes transport_bytes network_bytes
length-record_bytes r = refl

-- and of several 48 times as many
length-flat_map : (flows : List FlowRecord) → length (flat_map record_bytes flows) ≡ 48 * length flows
length-flat_map [] = refl
length-flat_map (r ∷ flows) =
    omega (arith, length-append (record_bytes r) (flat_map record_bytes flows), length-record_bytes r, length-flat_map flows)

-- the parts of records one after the other are their bytes
parts-flat_map : (flows : List FlowRecord) → parts 48 (length flows) (flat_map record_bytes flows) ≡ map record_bytes flows
parts-flat_map [] = refl
parts-flat_map (r ∷ flows) =
    let rest = flat_map record_bytes flows in
    ap₂ (λ (x : List ℕ) (xs : List ℕ). x ∷ parts 48 (length flows) xs) (take_at (record_bytes r) rest 48 (length-record_bytes r)) (drop_at (record_bytes r) rest 48 (length-record_bytes r))
    ∙ ap (λ (xs : List (List ℕ)). record_bytes r ∷ xs) (parts-flat_map flows)

-- the count of a datagram is of its records
count_of-datagram_bytes : (h : Header) (flows : List FlowRecord) → length flows ≤ 30 → count_of (datagram_bytes h flows) ≡ length flows
unfolding count_of header_bytes clock_bytes exporter_bytes
count_of-datagram_bytes h flows few = number-to_be_bytes_2 (length flows) (omega arith)

-- a header and from 1 to 30 records are written as a datagram
pub written_is_datagram : (h : Header) (flows : List FlowRecord) → 0 < length flows → length flows ≤ 30 → IsDatagram (datagram_bytes h flows)
unfolding version_of header_bytes clock_bytes exporter_bytes
written_is_datagram h flows some few = record {
  version = refl;
  some_records = omega (arith, count_of-datagram_bytes h flows few);
  few_records = omega (arith, count_of-datagram_bytes h flows few);
  size = omega (arith, count_of-datagram_bytes h flows few, length-flat_map flows);
}

-- its header is what the header's bytes are read as
pub header_of-datagram_bytes : (h : Header) (flows : List FlowRecord) → header_of (datagram_bytes h flows) ≡ header_of (header_bytes h (length flows))
unfolding header_of header_bytes clock_bytes exporter_bytes
header_of-datagram_bytes h flows = refl

-- its records are what the bytes of each record are read as
pub records_of-datagram_bytes : (h : Header) (flows : List FlowRecord) → length flows ≤ 30
    → records_of (datagram_bytes h flows) ≡ map record_of (map record_bytes flows)
unfolding records_of header_bytes clock_bytes exporter_bytes
records_of-datagram_bytes h flows few =
    ap (λ (n : ℕ). map record_of (parts 48 n (flat_map record_bytes flows))) (count_of-datagram_bytes h flows few)
    ∙ ap (λ (z : List (List ℕ)). map record_of z) (parts-flat_map flows)
