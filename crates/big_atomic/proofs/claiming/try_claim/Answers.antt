use Rattle.std.proofs.Common.{None}
use Rattle.big_atomic.proofs.Answered.{goes_of}
use Rattle.big_atomic.proofs.Claimed.{tried}
use Rattle.big_atomic.proofs.Goings.{free_stays}
use Rattle.hazard_claims.specs.Claiming.{claim_number}
use Rattle.big_atomic.proofs.claiming.try_claim.Goals as goal

pub claim_once-requires-clause-ours : goal.claim_once-requires-clause-ours
claim_once-requires-clause-ours c = goes_of (c.look_first-seen.ensures.looked.0 None) c.requires.ours

pub claim_once-requires-clause-free : goal.claim_once-requires-clause-free
claim_once-requires-clause-free c is = free_stays c.requires.law.sound (c.look_first-seen.ensures.looked.0 None) (c.requires.free is)

pub returns-clause-tried : goal.returns-clause-tried
returns-clause-tried c = tried (claim_number c.args.claim) c.args.reg c.look_first-seen.result c.claim_once.result c.args.seat.now c.look_first-seen.new.seat c.claim_once.new.seat
    c.look_first-seen.ensures.looked c.claim_once.ensures.turned
