use Rattle.std.proofs.Common.{refl}
use Rattle.cache_hash.proofs.Finding.{claim_unchanged}
use Rattle.cache_hash.proofs.Turning.{place_low, turn_end, turn_found}
use Rattle.cache_hash.proofs.tests.stops.walk_until.Goals as goal

pub walk-requires-clause-unchanged : goal.walk-requires-clause-unchanged
walk-requires-clause-unchanged c = claim_unchanged c.requires.past.3.claim

pub decide_there-decision-requires : goal.decide_there-decision-requires
decide_there-decision-requires c = record { few = place_low c.requires.past.3 c.in-Found.place c.in-Found.val c.walk.new.seat c.in-Found.ensures.walked }

pub decided_until-requires : goal.decided_until-requires
decided_until-requires c =
    let p = c.requires.past in
    let d = turn_found p.3 p.1 c.args.asked.change (p.2) c.decide_there-decision.result c.in-Found.place c.in-Found.val
    c.walk.new.seat refl c.in-Found.ensures.law c.in-Found.ensures.walked c.decide_there-decision.ensures.decides in
    record { past = (d.now, d.decided) }

pub decided_until-requires-in-End : goal.decided_until-requires-in-End
decided_until-requires-in-End c =
    let p = c.requires.past in
    let d = turn_end p.3 p.1 c.args.asked.change (p.2) c.decide_absent-decision.result c.in-End.length
    c.walk.new.seat refl c.in-End.ensures.law c.in-End.ensures.walked c.decide_absent-decision.ensures.decides in
    record { past = (d.now, d.decided) }
