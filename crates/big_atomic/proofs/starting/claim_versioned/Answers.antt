use Rattle.std.proofs.Common.{None}
use Rattle.big_atomic.proofs.Answered.{goes_of}
use Rattle.big_atomic.proofs.Versioned.{again_ours, begin_ours, start_again, start_claimed, start_first, start_smaller}
use Rattle.big_atomic.proofs.starting.claim_versioned.Goals as goal

pub look_first-word-requires-clause-ours : goal.look_first-word-requires-clause-ours
look_first-word-requires-clause-ours c = begin_ours c.args.seat.now c.begin-version.new.seat c.begin-version.ensures.begun c.requires.ours

pub turns-init : goal.turns-init
turns-init c = start_first c.args.seat.now c.begin-version.new.seat c.look_first-word.new.seat c.begin-version.ensures.begun c.look_first-word.ensures.looked c.look_first-word.ensures.law

pub claim_once-requires-clause-ours : goal.claim_once-requires-clause-ours
claim_once-requires-clause-ours c = goes_of (c.turns.invariant.sees.goes None) c.requires.ours

pub returns-in-Same-clause-started : goal.returns-in-Same-clause-started
returns-in-Same-clause-started c = start_claimed c.turns.invariant c.in-Same.ensures.turned

pub begin-again-requires-clause-ours : goal.begin-again-requires-clause-ours
begin-again-requires-clause-ours c = again_ours c.turns.invariant c.in-Other.ensures.turned c.requires.ours

pub turns-smaller : goal.turns-smaller
turns-smaller c = start_smaller c.turns.seat c.claim_once.new.seat c.begin-again.new.seat c.in-Other.ensures.turned c.begin-again.ensures.begun c.begin-again.ensures.law

pub turns-preserved : goal.turns-preserved
turns-preserved c = start_again c.claim_once.new.seat c.begin-again.new.seat c.turns.invariant c.in-Other.ensures.turned c.begin-again.ensures.begun c.begin-again.ensures.law
