use Rattle.std.proofs.Common.{None, refl}
use Rattle.big_atomic.proofs.Answered.{goes_of, may_answer}
use Rattle.big_atomic.proofs.Reading.{has_read, held_now, hold_ends, hold_ready}
use Rattle.big_atomic.proofs.holds.hold.Goals as goal

pub stand_now-requires-clause-ours : goal.stand_now-requires-clause-ours
stand_now-requires-clause-ours c = goes_of (c.claim_record.ensures.claimed.0.0.goes None) c.requires.ready.ours

pub stand_now-requires-clause-may : goal.stand_now-requires-clause-may
stand_now-requires-clause-may c = may_answer (hold_ends (has_read c.requires.ready c.requires.there c.claim_record.ensures.claimed) c.requires.none_held)

pub returns : goal.returns
returns c =
    let r = has_read c.requires.ready c.requires.there c.claim_record.ensures.claimed in
    record {
      ready = hold_ready r refl c.args.shared.now c.stand_now.new.seat c.requires.ready c.stand_now.ensures.seat c.stand_now.ensures.law;
      held = held_now r c.requires.none_held refl c.claim_record.ensures.few c.stand_now.new.seat c.stand_now.ensures.seat c.stand_now.ensures.law;
    }
