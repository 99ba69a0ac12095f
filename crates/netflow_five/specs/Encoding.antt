-- The bytes that a header and records are written as: their fields in the format's order, each
-- number with its most significant byte first.
use Rattle.std.specs.Prelude.{ℕ, List, [], ◌∷◌, ◌++◌}
use Rattle.std.specs.Int.{w16, w32, to_be_bytes}
use Rattle.netflow_five.specs.declared.header.Header.{Header}
use Rattle.netflow_five.specs.declared.record.FlowRecord.{FlowRecord}

-- the addresses, the next hop and the interfaces
unfoldable pub route_bytes : FlowRecord → List ℕ
route_bytes r = to_be_bytes w32 r.srcaddr ++ to_be_bytes w32 r.dstaddr ++ to_be_bytes w32 r.nexthop
    ++ to_be_bytes w16 r.input ++ to_be_bytes w16 r.output

-- the packets and octets, and the times of the first and the last packet
unfoldable pub traffic_bytes : FlowRecord → List ℕ
traffic_bytes r = to_be_bytes w32 r.d_pkts ++ to_be_bytes w32 r.d_octets ++ to_be_bytes w32 r.first ++ to_be_bytes w32 r.last

-- the ports, the flags, the protocol and the type of service
unfoldable pub transport_bytes : FlowRecord → List ℕ
transport_bytes r = to_be_bytes w16 r.srcport ++ to_be_bytes w16 r.dstport ++ r.pad1 ∷ r.tcp_flags ∷ r.prot ∷ r.tos ∷ []

-- the autonomous systems and the masks
unfoldable pub network_bytes : FlowRecord → List ℕ
network_bytes r = to_be_bytes w16 r.src_as ++ to_be_bytes w16 r.dst_as ++ r.src_mask ∷ r.dst_mask ∷ [] ++ to_be_bytes w16 r.pad2

-- the 48 bytes of a record
unfoldable pub record_bytes : FlowRecord → List ℕ
record_bytes r = route_bytes r ++ traffic_bytes r ++ transport_bytes r ++ network_bytes r

-- the exporter's uptime, and the time of day
unfoldable pub clock_bytes : Header → List ℕ
clock_bytes h = to_be_bytes w32 h.sys_uptime ++ to_be_bytes w32 h.unix_secs ++ to_be_bytes w32 h.unix_nsecs

-- the count of flows seen, the engine and the sampling
unfoldable pub exporter_bytes : Header → List ℕ
exporter_bytes h = to_be_bytes w32 h.flow_sequence ++ h.engine_type ∷ h.engine_id ∷ [] ++ to_be_bytes w16 h.sampling

-- the 24 bytes of the header of a datagram with so many records
unfoldable pub header_bytes : Header → ℕ → List ℕ
header_bytes h count = to_be_bytes w16 5 ++ to_be_bytes w16 count ++ clock_bytes h ++ exporter_bytes h
