use Rattle.cache_hash.proofs.Finding.{back_there, claim_unchanged, claimed_again, claimed_first, fewer, finds_none, finds_value, inside}
use Rattle.cache_hash.proofs.Finding.{knows, loses, lost_finding, missed_begun, missed_inside, of_finding}
use Rattle.cache_hash.proofs.finds.find_claimed.Goals as goal

pub claim_node-requires-clause-ours : goal.claim_node-requires-clause-ours
claim_node-requires-clause-ours c = let begun = missed_begun c.requires.past.1 in begun.ours

pub claim_node-requires-clause-there : goal.claim_node-requires-clause-there
claim_node-requires-clause-there c = missed_inside c.requires.past.1

pub turns-init : goal.turns-init
turns-init c = claimed_first c.args.shared.now c.args.key c.args.cell c.claim_node.result c.args.seat.now c.claim_node.new.seat
    (missed_begun c.requires.past.1) c.claim_node.ensures.claimed

pub walk-requires-clause-ours : goal.walk-requires-clause-ours
walk-requires-clause-ours c = of_finding c.turns.invariant.begun.ours c.turns.invariant.finding

pub walk-requires-clause-back : goal.walk-requires-clause-back
walk-requires-clause-back c = back_there c.turns.invariant

pub walk-requires-clause-unchanged : goal.walk-requires-clause-unchanged
walk-requires-clause-unchanged c = claim_unchanged c.turns.invariant.claim

pub answer_find-requires : goal.answer_find-requires
answer_find-requires c =
    let p = c.requires.past in
    record { past = (p.0, knows p.1 (finds_value c.turns.invariant c.in-Found.at c.in-Found.val c.walk.new.seat c.in-Found.ensures.walked)) }

pub returns-in-Found : goal.returns-in-Found
returns-in-Found c = record {
  ends = λ before missed. c.answer_find.ensures.ends before (knows missed (finds_value c.turns.invariant c.in-Found.at c.in-Found.val c.walk.new.seat c.in-Found.ensures.walked));
}

pub answer_find-requires-in-End : goal.answer_find-requires-in-End
answer_find-requires-in-End c =
    let p = c.requires.past in
    record { past = (p.0, knows p.1 (finds_none c.turns.invariant c.in-End.length c.walk.new.seat c.in-End.ensures.walked)) }

pub returns-in-End : goal.returns-in-End
returns-in-End c = record {
  ends = λ before missed. c.answer_find-in-End.ensures.ends before (knows missed (finds_none c.turns.invariant c.in-End.length c.walk.new.seat c.in-End.ensures.walked));
}

pub claim_node-requires-in-Moved-clause-ours : goal.claim_node-requires-in-Moved-clause-ours
claim_node-requires-in-Moved-clause-ours c =
    of_finding c.turns.invariant.begun.ours (lost_finding c.turns.invariant c.walk.new.seat (loses c.turns.invariant c.walk.new.seat c.in-Moved.ensures.walked))

pub claim_node-requires-in-Moved-clause-there : goal.claim_node-requires-in-Moved-clause-there
claim_node-requires-in-Moved-clause-there c = inside c.turns.invariant

pub turns-smaller : goal.turns-smaller
turns-smaller c = fewer c.turns.invariant c.claim_node-in-Moved.result c.walk.new.seat c.claim_node-in-Moved.new.seat (loses c.turns.invariant c.walk.new.seat c.in-Moved.ensures.walked)
    c.claim_node-in-Moved.ensures.claimed

pub turns-preserved : goal.turns-preserved
turns-preserved c = claimed_again c.turns.invariant c.claim_node-in-Moved.result c.walk.new.seat c.claim_node-in-Moved.new.seat (loses c.turns.invariant c.walk.new.seat c.in-Moved.ensures.walked)
    c.claim_node-in-Moved.ensures.claimed
