use Rattle.netflow_five.specs.Record.{record_of}
use Rattle.netflow_five.proofs.record.record_at.Goals as goal

-- field by field
pub returns : goal.returns
unfolding record_of
returns c = λ i. record {
  srcaddr = c.u32_at.ensures i;
  dstaddr = c.u32_at-2.ensures i;
  nexthop = c.u32_at-3.ensures i;
  input = c.u16_at.ensures i;
  output = c.u16_at-2.ensures i;
  d_pkts = c.u32_at-4.ensures i;
  d_octets = c.u32_at-5.ensures i;
  first = c.u32_at-6.ensures i;
  last = c.u32_at-7.ensures i;
  srcport = c.u16_at-3.ensures i;
  dstport = c.u16_at-4.ensures i;
  pad1 = c.u8_at.ensures i;
  tcp_flags = c.u8_at-2.ensures i;
  prot = c.u8_at-3.ensures i;
  tos = c.u8_at-4.ensures i;
  src_as = c.u16_at-5.ensures i;
  dst_as = c.u16_at-6.ensures i;
  src_mask = c.u8_at-5.ensures i;
  dst_mask = c.u8_at-6.ensures i;
  pad2 = c.u16_at-7.ensures i;
}
