use Rattle.std.proofs.Common.{◌∙◌, ap}
use Rattle.big_atomic.proofs.SeatNumbers.{split_led, split_numbers}
use Rattle.step_rules.specs.SeatData.{SeatData}
use Rattle.step_rules.specs.Views.{count_up}
use Rattle.step_rules.specs.declared.plan.Plan.{Plan}
use Rattle.speed_runs.proofs.runs.run.Goals as goal

pub finish-requires-clause-whole : goal.finish-requires-clause-whole
finish-requires-clause-whole g c =
    c.join-ran.ensures.numbers ∙ (c.in_ok-all.ensures.back.numbers ∙ (c.in_ok-filled.ensures.back.numbers
    ∙ (split_numbers c.in-Ok.ensures.built.1 c.in-Ok-split_all.ensures.split ∙ ap (λ (p : Plan). count_up 0 p.seats) c.plan-plan.ensures.plan)))

-- the seats come back twice
pub join-ran-requires-clause-led : goal.join-ran-requires-clause-led
join-ran-requires-clause-led g c =
    c.in_ok-all.ensures.back.led (c.in_ok-filled.ensures.back.led
    (split_led c.in-Ok-split_all.seats.items c.in-Ok-split_all.ensures.split c.in-Ok.ensures.law.sound.some_number (ap (λ (s : SeatData). s.first) c.in-Ok.ensures.built.1.seat)))
