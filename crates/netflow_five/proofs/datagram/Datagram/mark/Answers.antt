use Rattle.netflow_five.specs.Mark.{mark_of}
use Rattle.netflow_five.proofs.datagram.Datagram.mark.Goals as goal

pub returns : goal.returns
unfolding mark_of
returns c = λ i. record {
  engine_type = (c.header-header.ensures i).engine_type;
  engine_id = (c.header-header.ensures i).engine_id;
  sequence = (c.header-header.ensures i).flow_sequence;
  count = c.count.ensures i;
}
