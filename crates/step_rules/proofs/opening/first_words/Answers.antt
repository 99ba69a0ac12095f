use Rattle.std.proofs.Common.{refl, arith}
use Rattle.seat_history.specs.declared.words.TheConstants.{WIDTH}
use Rattle.step_rules.proofs.World.Opens.{cell_there, one_set}
use Rattle.step_rules.proofs.World.Sizes.{node_within}
use Rattle.step_rules.proofs.opening.first_words.Goals as goal

pub loop-cell-preserved : goal.loop-cell-preserved
loop-cell-preserved c =
    let was = c.loop-cell.invariant in
    let to = c.loop-cell-test.true in
    let end = was.end in
    let start = c.requires.start in record {
      to = omega arith;
      end = was.end;
      long = was.long;
      set = one_set c.args.plan.now c.loop-cell.words.items _ c.loop-cell.cell _ _ _ _ _ was.set (omega arith) (omega arith) (omega arith) (omega arith)
          (omega (arith, c.from.ensures)) c.first_next-next.ensures refl;
    }

pub index_mut-requires-in-loop-cell-2 : goal.index_mut-requires-in-loop-cell-2
index_mut-requires-in-loop-cell-2 c =
    let start = c.requires.start in
    let to = c.loop-cell-test.true in
    let end = c.loop-cell.invariant.end in
    let long = c.loop-cell.invariant.long in
    let there = node_within c.args.plan.now c.loop-cell.cell WIDTH (cell_there c.args.plan.now c.loop-cell.cell (omega arith)) (omega arith) in
    omega arith
