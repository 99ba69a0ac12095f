use Rattle.std.proofs.Common.{arith}
use Rattle.cache_hash.proofs.Turning.{is_due}
use Rattle.cache_hash.proofs.tests.stops.decided_until.Goals as goal

pub copy_until-requires : goal.copy_until-requires
copy_until-requires c =
    let d = is_due c.in-Changes.due c.in-Changes.is c.requires.past.1 in
    record {
      past = (
        c.requires.past.0,
        record {
          going = d.so_far.going;
          turn = d.turn;
          may = d.may;
          asked = d.asked;
          chain = d.chain;
          decides = d.decides;
          free = omega (arith, c.free.ensures);
        },
      );
    }
