use Rattle.std.proofs.Common.{arith}
use Rattle.big_atomic.proofs.Claimed.{node_fits, turned}
use Rattle.big_atomic.proofs.claiming.claim_once.Goals as goal

pub overflow_cast-seen : goal.overflow_cast-seen
overflow_cast-seen c = omega (arith, node_fits c.args.reg c.args.seen c.args.seat.now.view c.requires.law.sound c.requires.found)

pub returns-clause-turned : goal.returns-clause-turned
returns-clause-turned c = turned c.args.claim c.args.reg c.args.seen c.recheck.result c.args.seat.now c.announce.new.seat c.recheck.new.seat
    (record {
      found = c.requires.found;
      tells = c.requires.tells;
      announced = c.announce.ensures.announced;
      first = c.requires.law.sound;
      middle = c.announce.ensures.law.sound;
      last = c.recheck.ensures.law.sound;
    })
    c.recheck.ensures.rechecked
