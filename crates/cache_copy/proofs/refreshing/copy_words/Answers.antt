use Rattle.std.proofs.Common.{◌≡◌, arith, subst}
use Rattle.cache_copy.proofs.Copying.{IsCopying, all_copied, copying_of, glanced, may_copy, may_glance, none_copied, one_copied, word_is}
use Rattle.step_rules.specs.declared.layout.TheConstants.{NODE_WIDTH}
use Rattle.cache_copy.proofs.refreshing.copy_words.Goals as goal

pub loop-j-init : goal.loop-j-init
loop-j-init c = none_copied c.args.cell c.args.node c.args.seat.now c.requires.law c.requires.locked

pub node_glance-word-requires-clause-ours : goal.node_glance-word-requires-clause-ours
node_glance-word-requires-clause-ours c = copying_of c.args.cell c.loop-j.j c.args.seat.now c.loop-j.seat c.args.shared.now c.loop-j.invariant c.requires.ours

pub node_glance-word-requires-clause-known : goal.node_glance-word-requires-clause-known
node_glance-word-requires-clause-known c = may_glance c.args.cell c.args.node c.loop-j.j c.args.seat.now c.loop-j.seat c.requires.locked c.loop-j.invariant

pub inline_store-requires-clause-may : goal.inline_store-requires-clause-may
inline_store-requires-clause-may c =
    let old = c.args.seat.now in
    let j = c.loop-j.j in
    let glance = c.node_glance-word in
    may_copy c.args.cell c.args.node j glance.result old glance.new.seat c.requires.locked
    (glanced c.args.cell j old c.loop-j.seat glance.new.seat c.loop-j.invariant glance.ensures.seat glance.ensures.law) c.loop-j-test.true
    (word_is c.args.cell c.args.node j glance.result old c.loop-j.seat c.requires.locked c.loop-j.invariant glance.ensures.reads)

pub loop-j-preserved : goal.loop-j-preserved
loop-j-preserved c =
    let old = c.args.seat.now in
    let j = c.loop-j.j in
    let glance = c.node_glance-word in
    one_copied c.args.cell c.args.node j glance.result old glance.new.seat c.inline_store.new.seat c.requires.law.sound c.requires.locked
    (glanced c.args.cell j old c.loop-j.seat glance.new.seat c.loop-j.invariant glance.ensures.seat glance.ensures.law) c.loop-j-test.true
    (word_is c.args.cell c.args.node j glance.result old c.loop-j.seat c.requires.locked c.loop-j.invariant glance.ensures.reads)
    c.inline_store.ensures.seat c.inline_store.ensures.law

pub returns-clause-copied : goal.returns-clause-copied
returns-clause-copied c =
    let old = c.args.seat.now in
    let low = c.loop-j-test.false in
    let high = c.loop-j.auto.j-end in
    let end : c.loop-j.j ≡ NODE_WIDTH = omega arith in
    all_copied c.args.cell c.args.node old c.loop-j.seat c.requires.law.sound c.requires.locked (subst (λ j. IsCopying c.args.cell j old c.loop-j.seat) end
    c.loop-j.invariant)

pub returns-clause-law : goal.returns-clause-law
returns-clause-law c = c.loop-j.invariant.law
