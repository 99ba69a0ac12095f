use Rattle.std.proofs.Common.{rules, ◌≡◌, ◌+◌, arith, inr, sym, subst}
use Rattle.node_pool.proofs.Fills.{IsFilledTo, filled_all, filled_held, filled_more, filled_none}
use Rattle.step_rules.specs.SeatData.{IsSeat}
use Rattle.step_rules.specs.declared.layout.TheConstants.{NODE_WIDTH}
use Rattle.node_pool.proofs.fill.Goals as goal

pub loop-j-init : goal.loop-j-init
loop-j-init c = filled_none c.args.node c.args.words c.args.seat.now

pub node_store-requires-clause-own : goal.node_store-requires-clause-own
node_store-requires-clause-own c = inr (filled_held c.args.node c.args.words c.loop-j.j c.args.seat.now c.loop-j.seat c.loop-j.invariant c.requires.held)

pub loop-j-preserved : goal.loop-j-preserved
loop-j-preserved c =
    let node = c.args.node in
    let words = c.args.words in
    let j = c.loop-j.j in
    let old = c.args.seat.now in
    let held = filled_held node words j old c.loop-j.seat c.loop-j.invariant c.requires.held in
    let is = c.node_store.ensures.seat.held held in
    subst (IsFilledTo node words (j + 1) old) (sym is)
    (filled_more node words j old c.loop-j.seat (search rules) c.loop-j-test.true held (subst IsSeat is c.node_store.ensures.law) c.loop-j.invariant)

pub returns-clause-filled : goal.returns-clause-filled
returns-clause-filled c =
    let node = c.args.node in
    let words = c.args.words in
    let old = c.args.seat.now in
    let low = c.loop-j-test.false in
    let high = c.loop-j.auto.j-end in
    let end : c.loop-j.j ≡ NODE_WIDTH = omega arith in
    filled_all node words old c.loop-j.seat (search rules) c.requires.held (subst (λ j. IsFilledTo node words j old c.loop-j.seat) end c.loop-j.invariant)

pub returns-clause-law : goal.returns-clause-law
returns-clause-law c = let low = c.loop-j-test.false in c.loop-j.invariant.law (omega arith)
