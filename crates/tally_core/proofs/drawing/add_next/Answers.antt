use Rattle.std.proofs.Common.{arith, ap, length, not, subst}
use Rattle.flow_fold.specs.Flows.{Flows}
use Rattle.tally_core.proofs.Works.{ended, pairs_fit, went_on}
use Rattle.tally_core.specs.Attempts.{HasAddedFirst}
use Rattle.tally_core.specs.Draws.{drawn_pairs}
use Rattle.tally_core.proofs.drawing.add_next.Goals as goal

pub returns-in_default-clause-drawn : goal.returns-in_default-clause-drawn
returns-in_default-clause-drawn c =
    let e = c.in_default.ensures in
    ended c.requires.drawing _ record { draws = e.drawn; ours = e.ours; numbers = e.numbers; law = e.law }

pub add_pairs-added-requires : goal.add_pairs-added-requires
add_pairs-added-requires c =
    let e = c.in-Some.ensures in
    let fit = pairs_fit c.requires.drawing _ c.in-Some.batch record { draws = e.drawn; ours = e.ours; numbers = e.numbers; law = e.law } c.requires.of_pairs.1 in
    record { adding = (drawn_pairs c.args.pairs.now c.args.drawer.now.told.drawn.items, c.requires.drawing.adding, omega (arith, fit, ap length c.pairs_of.ensures, c.requires.changes)) }

pub returns-clause-drawn : goal.returns-clause-drawn
returns-clause-drawn c =
    let e = c.in-Some.ensures in
    let front = drawn_pairs c.args.pairs.now c.args.drawer.now.told.drawn.items in
    went_on c.requires.drawing _ c.in-Some.batch record { draws = e.drawn; ours = e.ours; numbers = e.numbers; law = e.law } c.requires.of_pairs.1 c.add_pairs-added.result _ _
    c.push_reserved.ensures.items c.push_reserved.ensures.capacity
    (subst (λ (l : Flows). HasAddedFirst c.args.shared.now front l (not c.add_pairs-added.result) c.add_pairs-added.new.seat) c.pairs_of.ensures
    (c.add_pairs-added.ensures.added front c.requires.drawing.adding))
