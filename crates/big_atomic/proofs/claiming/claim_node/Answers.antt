use Rattle.std.proofs.Common.{None, arith}
use Rattle.big_atomic.proofs.Answered.{goes_of}
use Rattle.big_atomic.proofs.Claimed.{seen_first, seen_further}
use Rattle.big_atomic.proofs.Goings.{free_stays}
use Rattle.big_atomic.proofs.Taking.{takes_claim, takes_look, takes_lost}
use Rattle.hazard_claims.specs.Claiming.{claim_number}
use Rattle.big_atomic.proofs.claiming.claim_node.Goals as goal

pub turns-init : goal.turns-init
turns-init c = record {
  sees = seen_first (claim_number c.args.claim) c.args.reg c.look_first-seen.result c.args.seat.now c.look_first-seen.new.seat c.look_first-seen.ensures.looked;
  few = takes_look c.look_first-seen.ensures.looked;
  law = c.look_first-seen.ensures.law;
}

pub claim_once-requires-clause-ours : goal.claim_once-requires-clause-ours
claim_once-requires-clause-ours c = goes_of (c.turns.invariant.sees.goes None) c.requires.ours

pub claim_once-requires-clause-free : goal.claim_once-requires-clause-free
claim_once-requires-clause-free c is = let s = c.turns.invariant.sees in free_stays c.law.ensures.sound (s.goes None) (c.requires.free is)

pub returns-in-Same-clause-claimed : goal.returns-in-Same-clause-claimed
returns-in-Same-clause-claimed c = let t = c.in-Same.ensures.turned in (seen_further c.turns.invariant.sees t.0 (let none = t.1 in omega arith), t.2)

pub returns-in-Same-clause-few : goal.returns-in-Same-clause-few
returns-in-Same-clause-few c = takes_claim c.turns.invariant.few c.in-Same.ensures.turned.0

pub turns-preserved : goal.turns-preserved
turns-preserved c =
    let t = c.in-Other.ensures.turned in
    record {
      sees = seen_further c.turns.invariant.sees t.0 (let one = t.1 in omega arith);
      few = takes_lost c.turns.invariant.few t.0 t.1;
      law = c.in-Other.ensures.law;
    }
