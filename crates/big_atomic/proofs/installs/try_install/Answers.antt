use Rattle.big_atomic.proofs.Installed.{announced_ours, exchange_unlocked, exchanged_ours, front_announced, may_announce_front, may_announced}
use Rattle.big_atomic.proofs.Installed.{near_announced, noted_announced, refreshed_ours, tries_mark, won_flight, won_version}
use Rattle.big_atomic.proofs.installs.try_install.Goals as goal

pub announce-requires-clause-may : goal.announce-requires-clause-may
announce-requires-clause-may c = may_announce_front c.args.node c.args.call c.args.seat.now c.requires.front c.requires.unlocked

-- what the exchange asks for stays
pub exchange-answer-requires-clause-ours : goal.exchange-answer-requires-clause-ours
exchange-answer-requires-clause-ours c = announced_ours c.args.node c.args.seat.now c.announce.new.seat c.announce.ensures.announced c.requires.ours

pub exchange-answer-requires-clause-may : goal.exchange-answer-requires-clause-may
exchange-answer-requires-clause-may c = may_announced c.args.node c.args.seat.now c.announce.new.seat c.announce.ensures.announced c.requires.may

pub exchange-answer-requires-clause-front : goal.exchange-answer-requires-clause-front
exchange-answer-requires-clause-front c = front_announced c.args.node c.args.seat.now c.announce.new.seat c.announce.ensures.announced c.args.call c.requires.front

pub exchange-answer-requires-clause-noted : goal.exchange-answer-requires-clause-noted
exchange-answer-requires-clause-noted c = noted_announced c.args.node c.args.seat.now c.announce.new.seat c.announce.ensures.announced c.args.call c.requires.noted

pub exchange-answer-requires-clause-found : goal.exchange-answer-requires-clause-found
exchange-answer-requires-clause-found c = near_announced c.args.node c.args.seat.now c.announce.new.seat c.announce.ensures.announced c.requires.found

-- the change that won is refreshed
pub refresh-requires : goal.refresh-requires
refresh-requires c = record {
  ours = exchanged_ours c.args.cell c.args.seen c.args.node c.args.call c.announce.new.seat c.exchange-answer.new.seat c.exchange-answer.result c.exchange-answer.ensures.exchanged
      (announced_ours c.args.node c.args.seat.now c.announce.new.seat c.announce.ensures.announced c.requires.ours);
  flight = won_flight c.args.seat.now c.announce.new.seat c.exchange-answer.new.seat c.announce.ensures.announced c.in_default.ensures.exchanged;
  found = won_version c.args.seat.now c.announce.new.seat c.exchange-answer.new.seat c.announce.ensures.announced c.in_default.ensures.exchanged c.requires.begun;
}

pub release-requires : goal.release-requires
release-requires c = record {
  ours = refreshed_ours c.exchange-answer.new.seat c.refresh.new.seat c.refresh.ensures.only
      (exchanged_ours c.args.cell c.args.seen c.args.node c.args.call c.announce.new.seat
      c.exchange-answer.new.seat c.exchange-answer.result c.exchange-answer.ensures.exchanged
      (announced_ours c.args.node c.args.seat.now c.announce.new.seat c.announce.ensures.announced c.requires.ours));
  unlocked = λ _. c.refresh.ensures.only.unlocked
      (exchange_unlocked c.args.cell c.args.seen c.args.node c.args.call c.exchange-answer.result c.args.seat.now c.announce.new.seat
      c.exchange-answer.new.seat c.announce.ensures.announced c.exchange-answer.ensures.exchanged);
}

pub returns-in_default-clause-tried : goal.returns-in_default-clause-tried
returns-in_default-clause-tried c = record {
  announced = c.announce.new.seat;
  exchanged = c.exchange-answer.new.seat;
  refreshed = c.refresh.new.seat;
  announces = c.announce.ensures.announced;
  sound = c.announce.ensures.law.sound;
  won = c.in_default.ensures.exchanged;
  marked = tries_mark c.refresh.result c.refresh.ensures.answer c.refresh.ensures.only;
  ends = c.release.ensures.released;
}

-- the exchange was lost
pub release-requires-2 : goal.release-requires-2
release-requires-2 c = record {
  ours = exchanged_ours c.args.cell c.args.seen c.args.node c.args.call c.announce.new.seat c.exchange-answer.new.seat c.exchange-answer.result c.exchange-answer.ensures.exchanged
      (announced_ours c.args.node c.args.seat.now c.announce.new.seat c.announce.ensures.announced c.requires.ours);
  unlocked = λ _. exchange_unlocked c.args.cell c.args.seen c.args.node c.args.call c.exchange-answer.result c.args.seat.now c.announce.new.seat c.exchange-answer.new.seat
      c.announce.ensures.announced c.exchange-answer.ensures.exchanged;
}

pub returns-clause-tried : goal.returns-clause-tried
returns-clause-tried c = record {
  announced = c.announce.new.seat;
  exchanged = c.exchange-answer.new.seat;
  announces = c.announce.ensures.announced;
  sound = c.announce.ensures.law.sound;
  lost = c.in-Moved.ensures.exchanged;
  ends = c.release-2.ensures.released;
}
