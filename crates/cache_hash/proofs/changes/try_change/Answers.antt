use Rattle.std.proofs.Common.{refl}
use Rattle.cache_hash.proofs.Turning.{end_seen, found_seen, place_low, turn_end, turn_found, turn_lost, turns_by}
use Rattle.cache_hash.proofs.Finding.{claim_unchanged}
use Rattle.cache_hash.proofs.changes.try_change.Goals as goal

pub walk-requires-clause-unchanged : goal.walk-requires-clause-unchanged
walk-requires-clause-unchanged c = claim_unchanged c.requires.past.3.claim

pub decide_there-decision-requires : goal.decide_there-decision-requires
decide_there-decision-requires c = record { few = place_low c.requires.past.3 c.in-Found.at c.in-Found.val c.walk.new.seat c.in-Found.ensures.walked }

pub go_on-requires : goal.go_on-requires
go_on-requires c =
    let p = c.requires.past in
    let d = turn_found p.3 p.1 c.args.asked.change (p.2) c.decide_there-decision.result c.in-Found.at c.in-Found.val c.walk.new.seat refl c.in-Found.ensures.law c.in-Found.ensures.walked
    c.decide_there-decision.ensures.decides in record { past = (d.now, d.decided) }

pub returns-in-Found : goal.returns-in-Found
returns-in-Found c = record {
  turned = λ b by may t.
      let d = turn_found t by c.args.asked.change (may) c.decide_there-decision.result c.in-Found.at c.in-Found.val c.walk.new.seat refl c.in-Found.ensures.law c.in-Found.ensures.walked
      c.decide_there-decision.ensures.decides in
      turns_by c.go_on.result c.args.seat.now c.go_on.new.seat (found_seen t c.in-Found.at c.in-Found.val c.walk.new.seat c.in-Found.ensures.walked) d (c.go_on.ensures.turned d.now d.decided);
}

pub go_on-requires-in-End : goal.go_on-requires-in-End
go_on-requires-in-End c =
    let p = c.requires.past in
    let d = turn_end p.3 p.1 c.args.asked.change (p.2) c.decide_absent-decision.result c.in-End.length c.walk.new.seat refl c.in-End.ensures.law c.in-End.ensures.walked
    c.decide_absent-decision.ensures.decides in record { past = (d.now, d.decided) }

pub returns-in-End : goal.returns-in-End
returns-in-End c = record {
  turned = λ b by may t.
      let d = turn_end t by c.args.asked.change (may) c.decide_absent-decision.result c.in-End.length c.walk.new.seat refl c.in-End.ensures.law c.in-End.ensures.walked
      c.decide_absent-decision.ensures.decides in
      turns_by c.go_on-in-End.result c.args.seat.now c.go_on-in-End.new.seat (end_seen t c.in-End.length c.walk.new.seat c.in-End.ensures.walked) d (c.go_on-in-End.ensures.turned d.now d.decided);
}

pub returns-in-Moved : goal.returns-in-Moved
returns-in-Moved c = record { turned = λ b by may t. turn_lost t by c.walk.new.seat c.in-Moved.ensures.walked }
