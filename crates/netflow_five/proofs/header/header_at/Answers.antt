use Rattle.netflow_five.specs.Header.{header_of}
use Rattle.netflow_five.proofs.header.header_at.Goals as goal

-- field by field
pub returns : goal.returns
unfolding header_of
returns c = λ i. record {
  sys_uptime = c.u32_at.ensures i;
  unix_secs = c.u32_at-2.ensures i;
  unix_nsecs = c.u32_at-3.ensures i;
  flow_sequence = c.u32_at-4.ensures i;
  engine_type = c.u8_at.ensures i;
  engine_id = c.u8_at-2.ensures i;
  sampling = c.u16_at.ensures i;
}
