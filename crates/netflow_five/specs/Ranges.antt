-- The numbers of records and headers that their fields have room for.
use Rattle.std.specs.Prelude.{◌^◌, ◌<◌}
use Rattle.netflow_five.specs.declared.header.Header.{Header}
use Rattle.netflow_five.specs.declared.record.FlowRecord.{FlowRecord}

-- the addresses, the next hop and the interfaces have room
pub record RouteFits (r : FlowRecord) : Type 0 where
  pub srcaddr : r.srcaddr < 2 ^ 32
  pub dstaddr : r.dstaddr < 2 ^ 32
  pub nexthop : r.nexthop < 2 ^ 32
  pub input : r.input < 2 ^ 16
  pub output : r.output < 2 ^ 16

-- the packets, the octets and the times have room
pub record TrafficFits (r : FlowRecord) : Type 0 where
  pub d_pkts : r.d_pkts < 2 ^ 32
  pub d_octets : r.d_octets < 2 ^ 32
  pub first : r.first < 2 ^ 32
  pub last : r.last < 2 ^ 32

-- the ports have room
pub record PortsFit (r : FlowRecord) : Type 0 where
  pub srcport : r.srcport < 2 ^ 16
  pub dstport : r.dstport < 2 ^ 16

-- the autonomous systems and the last pad have room
pub record NetworkFits (r : FlowRecord) : Type 0 where
  pub src_as : r.src_as < 2 ^ 16
  pub dst_as : r.dst_as < 2 ^ 16
  pub pad2 : r.pad2 < 2 ^ 16

-- the exporter's uptime and the time of day have room
pub record ClockFits (h : Header) : Type 0 where
  pub sys_uptime : h.sys_uptime < 2 ^ 32
  pub unix_secs : h.unix_secs < 2 ^ 32
  pub unix_nsecs : h.unix_nsecs < 2 ^ 32

-- the count of flows seen and the sampling have room
pub record ExporterFits (h : Header) : Type 0 where
  pub flow_sequence : h.flow_sequence < 2 ^ 32
  pub sampling : h.sampling < 2 ^ 16
