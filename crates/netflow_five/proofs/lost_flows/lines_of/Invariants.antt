use Rattle.std.proofs.Common.{◌≡◌, ◌+◌, ◌++◌, length}
use Rattle.std.specs.Prelude.{map}
use Rattle.std.specs.Vec.{vec_capacity, vec_len}
use Rattle.std.specs.BTreeMap.{btree_map_len}
use Rattle.netflow_five.proofs.Tallying.{entry_line}
use Rattle.netflow_five.proofs.lost_flows.lines_of.Given as goal

abbrev pub invariant-loop-engine : goal.invariant-loop-engine
invariant-loop-engine l = record {
  lines : l.lines.items ++ map entry_line l.engine-iterator ≡ map entry_line l.tallies.entries;
  left : length l.lines.items + length l.engine-iterator ≡ btree_map_len l.tallies;
  len : vec_len l.lines ≡ length l.lines.items;
  room : vec_capacity l.lines ≡ btree_map_len l.tallies;
}
