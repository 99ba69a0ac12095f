use Rattle.std.proofs.Common.{◌≡◌, ◌≤◌, vec_len}
use Rattle.step_rules.specs.Layout.{cells, words}
use Rattle.step_rules.proofs.World.Opens.{IsSet}
use Rattle.step_rules.proofs.opening.first_words.Given as goal

abbrev pub invariant-loop-cell : goal.invariant-loop-cell
invariant-loop-cell l = record {
  to : l.cell ≤ cells l.fn.plan;
  end : l.cell-end ≡ cells l.fn.plan;
  long : vec_len l.words ≡ words l.fn.plan;
  set : IsSet l.fn.plan l.words.items l.cell;
}
