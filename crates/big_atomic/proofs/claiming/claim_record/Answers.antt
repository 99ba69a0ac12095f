use Rattle.std.proofs.Common.{None, ◌/◌, ◌<◌, arith, subst, sym}
use Rattle.big_atomic.proofs.Answered.{goes_of}
use Rattle.big_atomic.proofs.Claimed.{claimed_read, may_load, node_fits, tells_low}
use Rattle.big_atomic.proofs.Taking.{takes_read}
use Rattle.hazard_claims.specs.Claiming.{claim_number}
use Rattle.step_rules.specs.declared.plan.Plan.{Plan}
use Rattle.big_atomic.proofs.claiming.claim_record.Goals as goal

pub overflow_cast-word : goal.overflow_cast-word
overflow_cast-word c =
    let h = c.claim_node-word.ensures.claimed in
    omega (arith, node_fits c.args.reg c.claim_node-word.result c.claim_node-word.new.seat.view (h.0.goes None).sound h.1.found)

pub read_record-rec-requires-clause-ours : goal.read_record-rec-requires-clause-ours
read_record-rec-requires-clause-ours c = goes_of (c.claim_node-word.ensures.claimed.0.goes None) c.requires.ours

pub read_record-rec-requires-clause-known : goal.read_record-rec-requires-clause-known
read_record-rec-requires-clause-known c =
    let h = c.claim_node-word.ensures.claimed in
    may_load (claim_number c.args.claim) (c.claim_node-word.result / 2) c.claim_node-word.new.seat (h.0.goes None).sound (tells_low (claim_number c.args.claim) c.requires.tells) h.1.stands

pub returns-clause-claimed : goal.returns-clause-claimed
returns-clause-claimed c = claimed_read c.requires.tells
    (subst (λ (p : Plan). c.args.reg < p.registers) (sym c.requires.ours.plan) c.requires.there) c.claim_node-word.ensures.claimed c.read_record-rec.ensures.read c.read_record-rec.ensures.law.sound

pub returns-clause-few : goal.returns-clause-few
returns-clause-few c =
    let h = c.claim_node-word.ensures.claimed in
    takes_read c.requires.tells (h.0.goes None).sound c.read_record-rec.ensures.law.sound c.claim_node-word.ensures.few h.1 c.read_record-rec.ensures.read
