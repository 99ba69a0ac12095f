use Rattle.std.proofs.Common.{None, Some, subst}
use Rattle.cache_hash.proofs.FirstNode.{has_missed, knows_first}
use Rattle.step_rules.specs.Layout.{IsPlan}
use Rattle.cache_hash.proofs.finds.find.Goals as goal

pub bucket_cell-cell-requires-clause-plan : goal.bucket_cell-cell-requires-clause-plan
bucket_cell-cell-requires-clause-plan c = subst IsPlan c.requires.ready.ours.plan c.requires.ready.law.sound.plan

pub answer_first-requires : goal.answer_first-requires
answer_first-requires c = record {
  past = (
    c.args.seat.now,
    knows_first {found = Some c.in-Here.val} c.requires.ready c.requires.some c.bucket_cell-cell.ensures.cell c.in-Here.ensures.first c.in-Here.ensures.law,
  );
}

pub returns-in-Here : goal.returns-in-Here
returns-in-Here c =
    let both = c.answer_first.ensures.ends c.args.seat.now
    (knows_first {found = Some c.in-Here.val} c.requires.ready c.requires.some c.bucket_cell-cell.ensures.cell c.in-Here.ensures.first c.in-Here.ensures.law) in
    record { ready = both.0; found = both.1 }

pub answer_first-requires-in-Absent : goal.answer_first-requires-in-Absent
answer_first-requires-in-Absent c = record {
  past = (
    c.args.seat.now,
    knows_first {found = None} c.requires.ready c.requires.some c.bucket_cell-cell.ensures.cell c.in-Absent.ensures.first c.in-Absent.ensures.law,
  );
}

pub returns-in-Absent : goal.returns-in-Absent
returns-in-Absent c =
    let both = c.answer_first-in-Absent.ensures.ends c.args.seat.now
    (knows_first {found = None} c.requires.ready c.requires.some c.bucket_cell-cell.ensures.cell c.in-Absent.ensures.first c.in-Absent.ensures.law) in
    record { ready = both.0; found = both.1 }

pub find_claimed-requires : goal.find_claimed-requires
find_claimed-requires c = record {
  past = (c.args.seat.now, has_missed c.requires.ready c.requires.some c.bucket_cell-cell.ensures.cell c.in-Beyond.ensures.first c.in-Beyond.ensures.law);
}

pub returns-in-Beyond : goal.returns-in-Beyond
returns-in-Beyond c =
    let both = c.find_claimed.ensures.ends c.args.seat.now
    (has_missed c.requires.ready c.requires.some c.bucket_cell-cell.ensures.cell c.in-Beyond.ensures.first c.in-Beyond.ensures.law) in
    record { ready = both.0; found = both.1 }
