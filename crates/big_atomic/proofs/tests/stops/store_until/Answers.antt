use Rattle.std.proofs.Common.{rules}
use Rattle.big_atomic.proofs.Beginning.{begins, store_starts}
use Rattle.big_atomic.proofs.tests.stops.store_until.Goals as goal

pub give_until-requires : goal.give_until-requires
give_until-requires c =
    let s = store_starts (begins c.requires.ready c.requires.there c.requires.left)
    (search rules) c.begin_turn-turn.ensures.started c.begin_turn-turn.ensures.kept c.begin_turn-turn.ensures.law in record { past = (s.0, s.3) }
