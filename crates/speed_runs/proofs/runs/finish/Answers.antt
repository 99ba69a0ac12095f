use Rattle.std.proofs.Common.{◌*◌, ◌-◌, ◌∙◌, ap, arith, length, subst, sym}
use Rattle.speed_runs.proofs.Ends.{ended}
use Rattle.step_rules.proofs.Numbers.Sets.{length-count_up}
use Rattle.step_rules.specs.Layout.{IsPlan}
use Rattle.step_rules.specs.declared.plan.Plan.{Plan}
use Rattle.speed_runs.proofs.runs.finish.Goals as goal

pub returns : goal.returns
returns g c =
    let plan = c.plan-plan.ensures.plan in
    let seats = ap (λ (p : Plan). p.seats) plan in
    ended c.close-closed.ensures.closed c.requires.plan (subst IsPlan plan c.plan-plan.ensures.fits) c.requires.whole c.requires.ran
    (omega (arith, c.filling.ensures, c.filling.type_inv, c.calls.ensures, c.calls.type_inv))
    (c.of_all-filled.ensures ∙ (λ j. c.filling.ensures j * seats j)) (c.of_all-calls.ensures ∙ (λ j. c.calls.ensures j * seats j))
    (λ j. (plan j).changes * (c.from.ensures ∙ seats) j - c.changes_left.ensures j)

pub close-closed-requires-clause-whole : goal.close-closed-requires-clause-whole
close-closed-requires-clause-whole g c = ap length c.requires.whole ∙ (length-count_up 0 (g.W.Work.plan c.args.work.now).seats ∙ ap (λ (p : Plan). p.seats) (sym c.requires.plan))
