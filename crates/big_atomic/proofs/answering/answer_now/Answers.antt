use Rattle.std.proofs.Common.{length, subst, sym}
use Rattle.big_atomic.proofs.Answered.{may_ended}
use Rattle.step_rules.specs.SeatData.{SeatData}
use Rattle.step_rules.specs.Steps.{MayAnswer}
use Rattle.big_atomic.proofs.answering.answer_now.Goals as goal

pub stand_now-requires-clause-may : goal.stand_now-requires-clause-may
stand_now-requires-clause-may c =
    subst (λ (s : SeatData). MayAnswer (length s.view.seen) c.args.call c.args.reply s) (sym c.release.ensures.released)
    (may_ended (length c.args.seat.now.view.seen) c.args.call c.args.reply c.args.seat.now c.law.ensures.sound c.requires.may)
