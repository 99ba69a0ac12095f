use Rattle.std.specs.Vec.{vec_capacity, vec_len}
use Rattle.std.proofs.Common.{◌≡◌, ◌+◌, ◌≤◌, [], ◌∷◌, ◌++◌, take}
use Rattle.flow_fold.specs.Pair.{pairs_under}
use Rattle.netflow_five.specs.Datagram.{records_of, count_of}
use Rattle.netflow_five.specs.Header.{header_of}
use Rattle.netflow_five.specs.Mark.{mark_of}
use Rattle.flow_tally.proofs.gathered.Gathered.add_datagram.Given as goal

abbrev pub invariant-loop-i : goal.invariant-loop-i
invariant-loop-i l = record {
  pairs : l.self.pairs.items ≡ l.fn.self.pairs.items ++ pairs_under (header_of l.datagram.bytes.now) (take l.i (records_of l.datagram.bytes.now));
  room : vec_len l.self.pairs + count_of l.datagram.bytes.now ≤ vec_capacity l.self.pairs + l.i;
  marks : l.self.marks.items ≡ l.fn.self.marks.items ++ mark_of l.datagram.bytes.now ∷ [];
}
