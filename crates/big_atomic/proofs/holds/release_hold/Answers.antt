use Rattle.big_atomic.proofs.Reading.{HasReleased, may_release, release_ready, released}
use Rattle.big_atomic.proofs.holds.release_hold.Goals as goal

pub stand_now-requires-clause-may : goal.stand_now-requires-clause-may
stand_now-requires-clause-may c = may_release {before = c.args.seat.now}
    (record { cleared = c.release.ensures.released; held = c.requires.held; first = c.requires.ready.law.sound; last = c.release.ensures.law.sound })

pub returns : goal.returns
returns c =
    let r : HasReleased c.args.seat.now c.release.new.seat = record {
      cleared = c.release.ensures.released;
      held = c.requires.held;
      first = c.requires.ready.law.sound;
      last = c.release.ensures.law.sound;
    } in
    record {
      ready = release_ready r c.args.shared.now c.stand_now.new.seat c.requires.ready c.stand_now.ensures.seat c.stand_now.ensures.law;
      released = released r c.stand_now.new.seat c.stand_now.ensures.seat c.stand_now.ensures.law;
    }
