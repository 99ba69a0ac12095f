use Rattle.std.proofs.Common.{◌∙◌, ap, length, sym}
use Rattle.big_atomic.proofs.SeatNumbers.{split_numbers}
use Rattle.step_rules.proofs.Numbers.Sets.{length-count_up}
use Rattle.step_rules.specs.declared.plan.Plan.{Plan}
use Rattle.board_example.proofs.session.run.Goals as goal

pub finish-requires-clause-whole : goal.finish-requires-clause-whole
finish-requires-clause-whole g c =
    let built = c.in-Ok.ensures.built.1 in
    ap length (c.gather-member.ensures.numbers ∙ (c.in_ok-members.ensures.back.numbers ∙ split_numbers built c.in-Ok-split_all.ensures.split))
    ∙ (length-count_up 0 c.args.asked.now.plan.seats ∙ ap (λ (p : Plan). p.seats) (sym built.plan))
