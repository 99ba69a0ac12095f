use Rattle.std.proofs.Common.{rules, ◌≡◌, ◌∙◌, ◌+◌, ◌-◌, ◌∷◌, ◌++◌, [], arith}
use Rattle.step_rules.specs.Views.{count_up}
use Rattle.step_rules.proofs.Numbers.Ranges.{count_next}
use Rattle.step_rules.proofs.opening.free_nodes.Goals as goal

pub loop-node-preserved : goal.loop-node-preserved
loop-node-preserved c = let m = c.args.layout.now.cells in let n = c.loop-node.node in let k = c.loop-node.invariant in let from = k.from in record {
  from = omega arith;
  to = search rules;
  end = search rules;
  items = c.push_reserved.ensures.items ∙ ((λ i. k.items i ++ n ∷ []) ∙ (count_next m (n - m) n (omega arith) ∙ (λ i. count_up m (next i))));
  long = search rules;
  room = search rules;
}
  where
    next : (c.loop-node.node - c.args.layout.now.cells) + 1 ≡ c.loop-node.node + 1 - c.args.layout.now.cells
    next = let from = c.loop-node.invariant.from in omega arith
