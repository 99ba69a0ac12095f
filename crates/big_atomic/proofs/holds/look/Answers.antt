use Rattle.std.proofs.Common.{arith}
use Rattle.big_atomic.proofs.Claimed.{may_load}
use Rattle.big_atomic.proofs.Reading.{has_read_held, look_ready, looked, may_look}
use Rattle.step_rules.specs.Claims.{HOLD}
use Rattle.big_atomic.proofs.holds.look.Goals as goal

pub read_record-rec-requires-clause-known : goal.read_record-rec-requires-clause-known
read_record-rec-requires-clause-known c = may_load HOLD c.held_node-node.result c.args.seat.now c.requires.ready.law.sound (omega arith) c.held_node-node.ensures

pub stand_now-requires-clause-may : goal.stand_now-requires-clause-may
stand_now-requires-clause-may c = may_look
    (has_read_held (c.requires.ready.held c.requires.held).1 c.held_node-node.ensures c.requires.ready.law c.read_record-rec.ensures.read c.read_record-rec.ensures.law)

pub returns : goal.returns
returns c =
    let r = has_read_held (c.requires.ready.held c.requires.held).1 c.held_node-node.ensures c.requires.ready.law c.read_record-rec.ensures.read c.read_record-rec.ensures.law in
    record {
      ready = look_ready r c.args.shared.now c.stand_now.new.seat c.requires.ready c.stand_now.ensures.seat c.stand_now.ensures.law;
      looked = looked r c.stand_now.new.seat c.stand_now.ensures.seat c.stand_now.ensures.law;
    }
