-- What a datagram says of its place among the flows of its engine.
use Rattle.std.specs.Prelude.{ℕ, List}
use Rattle.netflow_five.specs.Datagram.{count_of}
use Rattle.netflow_five.specs.Header.{header_of}
use Rattle.netflow_five.specs.declared.seq_mark.SeqMark.{SeqMark}

-- the engine and the sequence number of its header, and its count of records
unfoldable pub mark_of : List ℕ → SeqMark
mark_of datagram = record {
  engine_type = (header_of datagram).engine_type;
  engine_id = (header_of datagram).engine_id;
  sequence = (header_of datagram).flow_sequence;
  count = count_of datagram;
}
