use Rattle.std.proofs.Common.{◌≡◌, ◌++◌, length}
use Rattle.std.specs.Vec.{vec_capacity, vec_len}
use Rattle.std.specs.BTreeMap.{btree_map_len}
use Rattle.flow_fold.proofs.flow_list.flows_of.Given as goal

abbrev pub invariant-loop-key : goal.invariant-loop-key
invariant-loop-key l = record {
  entries : l.items.items ++ l.key-iterator ≡ l.flows.entries;
  len : vec_len l.items ≡ length l.items.items;
  room : vec_capacity l.items ≡ btree_map_len l.flows;
}
