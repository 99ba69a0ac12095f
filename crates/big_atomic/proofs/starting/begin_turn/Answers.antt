use Rattle.std.proofs.Common.{None, ◌/◌, ◌<◌, arith, subst, sym}
use Rattle.big_atomic.proofs.Answered.{goes_of}
use Rattle.big_atomic.proofs.Claimed.{may_load, node_fits}
use Rattle.big_atomic.proofs.Versioned.{start_read}
use Rattle.step_rules.specs.Claims.{BACK}
use Rattle.step_rules.specs.declared.plan.Plan.{Plan}
use Rattle.big_atomic.proofs.starting.begin_turn.Goals as goal

pub overflow_cast-start : goal.overflow_cast-start
overflow_cast-start c =
    let h = c.claim_versioned-start.ensures.started.0 in
    omega (arith, node_fits c.args.reg c.claim_versioned-start.result.word c.claim_versioned-start.new.seat.view (h.0.goes None).sound h.1.found)

pub read_record-rec-requires-clause-ours : goal.read_record-rec-requires-clause-ours
read_record-rec-requires-clause-ours c = goes_of (c.claim_versioned-start.ensures.started.0.0.goes None) c.requires.ours

pub read_record-rec-requires-clause-known : goal.read_record-rec-requires-clause-known
read_record-rec-requires-clause-known c =
    let h = c.claim_versioned-start.ensures.started.0 in
    may_load BACK (c.claim_versioned-start.result.word / 2) c.claim_versioned-start.new.seat (h.0.goes None).sound (omega arith) h.1.stands

pub returns-clause-started : goal.returns-clause-started
returns-clause-started c = start_read (subst (λ (p : Plan). c.args.reg < p.registers)
    (sym c.requires.ours.plan) c.requires.there) c.claim_versioned-start.ensures.started
    c.read_record-rec.ensures.read c.read_record-rec.ensures.law.sound
