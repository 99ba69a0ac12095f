use Rattle.std.proofs.Common.{None, ◌/◌, arith}
use Rattle.big_atomic.proofs.Answered.{goes_of}
use Rattle.big_atomic.proofs.Claimed.{may_load, node_fits}
use Rattle.step_rules.specs.Claims.{BACK}
use Rattle.big_atomic.proofs.tests.stops.claim_until.Goals as goal

pub overflow_cast-seen : goal.overflow_cast-seen
overflow_cast-seen c =
    let look = c.look_first-seen in
    omega (arith, node_fits 0 look.result look.new.seat.view look.ensures.law.sound look.ensures.looked.2)

pub announce-requires-clause-ours : goal.announce-requires-clause-ours
announce-requires-clause-ours c = goes_of (c.look_first-seen.ensures.looked.0 None) c.requires.ours

pub overflow_cast-word : goal.overflow_cast-word
overflow_cast-word c =
    let h = c.in-Same.ensures.tried in
    omega (arith, node_fits 0 c.in-Same.word c.try_claim.new.seat.view (h.0.goes None).sound h.0.found)

pub read_record-requires-clause-ours : goal.read_record-requires-clause-ours
read_record-requires-clause-ours c = goes_of (c.in-Same.ensures.tried.0.goes None) c.requires.ours

pub read_record-requires-clause-known : goal.read_record-requires-clause-known
read_record-requires-clause-known c =
    let h = c.in-Same.ensures.tried in
    may_load BACK (c.in-Same.word / 2) c.try_claim.new.seat (h.0.goes None).sound (omega arith) h.3.stands
