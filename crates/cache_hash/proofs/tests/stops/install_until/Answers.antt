use Rattle.big_atomic.proofs.Exchanging.{won_first}
use Rattle.big_atomic.proofs.Installed.{may_announce_front, won_version}
use Rattle.cache_hash.proofs.tests.stops.install_until.Goals as goal

pub announce-requires-clause-may : goal.announce-requires-clause-may
announce-requires-clause-may c = may_announce_front c.args.node c.args.call c.args.seat.now c.requires.front c.requires.unlocked

pub refresh_until-requires-clause-found : goal.refresh_until-requires-clause-found
refresh_until-requires-clause-found c =
    let won = won_first c.announce.ensures.law.sound c.backup_exchange-found.ensures.law.sound (c.backup_exchange-found.ensures.won c.if-found-start.false) in
    won_version c.args.seat.now c.announce.new.seat c.backup_exchange-found.new.seat c.announce.ensures.announced won c.requires.begun
