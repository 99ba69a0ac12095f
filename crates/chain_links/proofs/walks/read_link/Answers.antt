use Rattle.std.proofs.Common.{◌<◌, subst}
use Rattle.chain_links.proofs.Passing.{announced_kept, announced_names, back_inside, kept_of, kept_then, may_load_link, may_recheck_link, rechecked_kept}
use Rattle.step_rules.specs.Layout.{cells}
use Rattle.step_rules.specs.declared.plan.Plan.{Plan}
use Rattle.chain_links.proofs.walks.read_link.Goals as goal

pub recheck-requires-clause-there : goal.recheck-requires-clause-there
recheck-requires-clause-there c = subst (λ (p : Plan). c.args.cell < cells p) c.requires.ours.plan (back_inside c.args.cell c.args.seat.now.view c.requires.law.sound c.requires.back.0)

pub recheck-requires-clause-may : goal.recheck-requires-clause-may
recheck-requires-clause-may c = may_recheck_link
    c.args.cell c.args.seen c.args.link c.args.seat.now c.announce.new.seat c.requires.law.sound c.announce.ensures.law.sound c.requires.back.0 c.requires.back.1
    c.requires.page c.announce.ensures.announced

pub node_words-requires-clause-ours : goal.node_words-requires-clause-ours
node_words-requires-clause-ours c = kept_of
    (kept_then (announced_kept c.args.link c.args.seat.now c.announce.new.seat c.announce.ensures.announced)
    (rechecked_kept c.args.cell c.args.seen c.in-Same.field-0 c.args.link c.announce.new.seat c.recheck.new.seat c.announce.ensures.law.sound
    (announced_names c.args.link c.args.seat.now c.announce.new.seat c.requires.law.sound c.announce.ensures.announced) c.in-Same.ensures.rechecked)) c.requires.ours

pub node_words-requires-clause-known : goal.node_words-requires-clause-known
node_words-requires-clause-known c = may_load_link c.args.cell c.args.seen c.in-Same.field-0 c.args.link c.args.seat.now c.announce.new.seat c.recheck.new.seat c.requires.law.sound
    c.announce.ensures.law.sound c.in-Same.ensures.law.sound c.announce.ensures.announced c.in-Same.ensures.rechecked
