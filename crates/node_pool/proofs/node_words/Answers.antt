use Rattle.std.proofs.Common.{◌≡◌, ◌+◌, set, sym, subst, arith}
use Rattle.node_pool.proofs.Fills.{IsReadTo, read_all, read_more}
use Rattle.step_rules.specs.SeatData.{IsSeat}
use Rattle.step_rules.specs.declared.layout.TheConstants.{NODE_WIDTH}
use Rattle.node_pool.proofs.node_words.Goals as goal

pub loop-j-preserved : goal.loop-j-preserved
loop-j-preserved c =
    let node = c.args.node in
    let words = c.loop-j.word-items in
    let j = c.loop-j.j in
    let word = c.node_load.result in
    let old = c.args.seat.now in
    subst (IsReadTo node (set words j word) (j + 1) old) (sym c.node_load.ensures.seat)
    (read_more node words j word old c.loop-j.seat (subst IsSeat c.node_load.ensures.seat c.node_load.ensures.law) c.loop-j-test.true c.loop-j.invariant c.node_load.ensures.reads)

pub returns-clause-read : goal.returns-clause-read
returns-clause-read c =
    let node = c.args.node in
    let words = c.loop-j.word-items in
    let old = c.args.seat.now in
    let low = c.loop-j-test.false in
    let high = c.loop-j.auto.j-end in
    let end : c.loop-j.j ≡ NODE_WIDTH = omega arith in
    read_all node words old c.loop-j.seat (subst (λ j. IsReadTo node words j old c.loop-j.seat) end c.loop-j.invariant)

pub returns-clause-law : goal.returns-clause-law
returns-clause-law c = let low = c.loop-j-test.false in c.loop-j.invariant.law (omega arith)
