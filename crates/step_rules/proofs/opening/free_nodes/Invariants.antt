use Rattle.std.proofs.Common.{◌≡◌, ◌≤◌, ◌-◌, vec_capacity, vec_len}
use Rattle.step_rules.specs.Views.{count_up}
use Rattle.step_rules.proofs.opening.free_nodes.Given as goal

abbrev pub invariant-loop-node : goal.invariant-loop-node
invariant-loop-node l = record {
  from : l.fn.layout.cells ≤ l.node;
  to : l.node ≤ l.fn.layout.nodes;
  end : l.node-end ≡ l.fn.layout.nodes;
  items : l.free.items ≡ count_up l.fn.layout.cells (l.node - l.fn.layout.cells);
  long : vec_len l.free ≡ l.node - l.fn.layout.cells;
  room : vec_capacity l.free ≡ l.fn.room;
}
