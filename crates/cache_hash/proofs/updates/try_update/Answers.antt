use Rattle.std.proofs.Common.{None, Some, rules}
use Rattle.cache_hash.proofs.Turning.{end_seen, found_seen, place_low, turn_end, turn_found, turn_lost, turns_by}
use Rattle.cache_hash.proofs.Finding.{claim_unchanged}
use Rattle.cache_hash.proofs.Updating.{may_put}
use Rattle.cache_hash.proofs.updates.try_update.Goals as goal

pub walk-requires-clause-unchanged : goal.walk-requires-clause-unchanged
walk-requires-clause-unchanged g c = claim_unchanged c.requires.past.2.claim

pub decide_there-decision-requires : goal.decide_there-decision-requires
decide_there-decision-requires g c = record { few = place_low c.requires.past.2 c.in-Found.at c.in-Found.val c.walk.new.seat c.in-Found.ensures.walked }

pub go_on-requires : goal.go_on-requires
go_on-requires g c =
    let p = c.requires.past in
    let d = turn_found p.2 p.1 c.change_to-change.result
    (may_put (Some c.in-Found.val) c.f-new.result (search rules, search rules) c.change_to-change.ensures.change c.change_to-change.ensures.words)
    c.decide_there-decision.result c.in-Found.at c.in-Found.val c.walk.new.seat
    (record { val = c.f-new.result; in_range = c.change_to-change.ensures.words; given = c.f-new.ensures; change_is = c.change_to-change.ensures.change })
    c.in-Found.ensures.law c.in-Found.ensures.walked
    c.decide_there-decision.ensures.decides in record { past = (d.now, d.decided) }

pub returns-in-Found : goal.returns-in-Found
returns-in-Found g c = record {
  turned = λ b by t.
      let d = turn_found t by c.change_to-change.result
      (may_put (Some c.in-Found.val) c.f-new.result (search rules, search rules) c.change_to-change.ensures.change c.change_to-change.ensures.words)
      c.decide_there-decision.result c.in-Found.at c.in-Found.val c.walk.new.seat
      (record { val = c.f-new.result; in_range = c.change_to-change.ensures.words; given = c.f-new.ensures; change_is = c.change_to-change.ensures.change })
      c.in-Found.ensures.law c.in-Found.ensures.walked
      c.decide_there-decision.ensures.decides in
      turns_by c.go_on.result c.args.seat.now c.go_on.new.seat (found_seen t c.in-Found.at c.in-Found.val c.walk.new.seat c.in-Found.ensures.walked) d (c.go_on.ensures.turned d.now d.decided);
}

pub go_on-requires-in-End : goal.go_on-requires-in-End
go_on-requires-in-End g c =
    let p = c.requires.past in
    let d = turn_end p.2 p.1 c.change_to-insert.result
    (may_put None c.f-first.result (search rules, search rules) c.change_to-insert.ensures.change c.change_to-insert.ensures.words)
    c.decide_absent-decision.result c.in-End.length c.walk.new.seat
    (record { val = c.f-first.result; in_range = c.change_to-insert.ensures.words; given = c.f-first.ensures; change_is = c.change_to-insert.ensures.change })
    c.in-End.ensures.law c.in-End.ensures.walked
    c.decide_absent-decision.ensures.decides in record { past = (d.now, d.decided) }

pub returns-in-End : goal.returns-in-End
returns-in-End g c = record {
  turned = λ b by t.
      let d = turn_end t by c.change_to-insert.result
      (may_put None c.f-first.result (search rules, search rules) c.change_to-insert.ensures.change c.change_to-insert.ensures.words)
      c.decide_absent-decision.result c.in-End.length c.walk.new.seat
      (record { val = c.f-first.result; in_range = c.change_to-insert.ensures.words; given = c.f-first.ensures; change_is = c.change_to-insert.ensures.change })
      c.in-End.ensures.law c.in-End.ensures.walked
      c.decide_absent-decision.ensures.decides in
      turns_by c.go_on-in-End.result c.args.seat.now c.go_on-in-End.new.seat (end_seen t c.in-End.length c.walk.new.seat c.in-End.ensures.walked) d (c.go_on-in-End.ensures.turned d.now d.decided);
}

pub returns-in-Moved : goal.returns-in-Moved
returns-in-Moved g c = record { turned = λ b by t. turn_lost t by c.walk.new.seat c.in-Moved.ensures.walked }
