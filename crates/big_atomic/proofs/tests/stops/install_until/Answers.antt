use Rattle.big_atomic.proofs.Installed.{announced_ours, exchanged_ours, front_announced, may_announce_front, may_announced}
use Rattle.big_atomic.proofs.Installed.{near_announced, noted_announced, won_flight, won_version}
use Rattle.big_atomic.proofs.tests.stops.install_until.Goals as goal

pub announce-requires-clause-may : goal.announce-requires-clause-may
announce-requires-clause-may c = may_announce_front c.args.node c.args.call c.args.seat.now c.requires.front c.requires.unlocked

pub exchange-answer-requires : goal.exchange-answer-requires
exchange-answer-requires c = record {
  ours = announced_ours c.args.node c.args.seat.now c.announce.new.seat c.announce.ensures.announced c.requires.ours;
  may = may_announced c.args.node c.args.seat.now c.announce.new.seat c.announce.ensures.announced c.requires.may;
  front = front_announced c.args.node c.args.seat.now c.announce.new.seat c.announce.ensures.announced c.args.call c.requires.front;
  noted = noted_announced c.args.node c.args.seat.now c.announce.new.seat c.announce.ensures.announced c.args.call c.requires.noted;
  found = near_announced c.args.node c.args.seat.now c.announce.new.seat c.announce.ensures.announced c.requires.found;
  law = c.announce.ensures.law;
}

pub refresh_until-requires : goal.refresh_until-requires
refresh_until-requires c = record {
  ours = exchanged_ours 0 c.args.seen c.args.node c.args.call c.announce.new.seat c.exchange-answer.new.seat c.exchange-answer.result c.exchange-answer.ensures.exchanged
      (announced_ours c.args.node c.args.seat.now c.announce.new.seat c.announce.ensures.announced c.requires.ours);
  flight = won_flight c.args.seat.now c.announce.new.seat c.exchange-answer.new.seat c.announce.ensures.announced c.in_default.ensures.exchanged;
  found = won_version c.args.seat.now c.announce.new.seat c.exchange-answer.new.seat c.announce.ensures.announced c.in_default.ensures.exchanged c.requires.begun;
}
