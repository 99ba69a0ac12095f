use Rattle.std.proofs.Common.{◌∙◌, sym}
use Rattle.big_atomic.proofs.Answered.{may_answer}
use Rattle.big_atomic.proofs.Deciding.{end_there, past_ours, told_there}
use Rattle.big_atomic.proofs.Installed.{installed_ours}
use Rattle.big_atomic.proofs.Preparing.{node_for}
use Rattle.big_atomic.proofs.PuttingBack.{decided_back, none_announced}
use Rattle.big_atomic.proofs.Renewing.{give_begun, give_front, give_may, give_near, give_noted, give_unlocked, lost_turn, won_told}
use Rattle.big_atomic.proofs.Shortage.{short_end, short_of, short_told}
use Rattle.big_atomic.proofs.gives.give.Goals as goal

-- the register has the record
pub put_back_all-requires : goal.put_back_all-requires
put_back_all-requires c =
    let p = c.requires.past.1.at.past in
    record { ours = past_ours p; unannounced = none_announced c.args.seat.now.holding c.args.seat.now.view p.own }

pub answer_now-requires-clause-may : goal.answer_now-requires-clause-may
answer_now-requires-clause-may c =
    may_answer (end_there (decided_back c.put_back_all.ensures.free c.put_back_all.ensures.law c.requires.past.1) (sym c.eq.ensures ∙ c.if-eq.true))

pub returns-then-eq : goal.returns-then-eq
returns-then-eq c = record {
  given = λ b d. told_there (decided_back c.put_back_all.ensures.free c.put_back_all.ensures.law d) (sym c.eq.ensures ∙ c.if-eq.true)
      c.answer_now.ensures.seat c.answer_now.ensures.law;
}

-- no node is free or kept
pub answer_now-requires-in_default-clause-may : goal.answer_now-requires-in_default-clause-may
answer_now-requires-in_default-clause-may c = may_answer (short_end
    (short_of c.args.turn.kept c.requires.past.1 (sym c.eq.ensures ∙ c.if-eq.false) c.in_default.ensures.ready c.ready_node.ensures.law))

pub returns-in_default : goal.returns-in_default
returns-in_default c = record {
  given = λ b d. short_told (short_of c.args.turn.kept d (sym c.eq.ensures ∙ c.if-eq.false) c.in_default.ensures.ready c.ready_node.ensures.law)
      c.answer_now-in_default.ensures.seat c.answer_now-in_default.ensures.law;
}

-- a node with the record is held
pub try_install-answer-requires : goal.try_install-answer-requires
try_install-answer-requires c =
    let r = node_for c.args.turn.kept c.requires.past.1 (sym c.eq.ensures ∙ c.if-eq.false) c.in-Some.ensures.ready c.ready_node.ensures.law in
    record {
      ours = past_ours r.past;
      may = give_may r;
      front = give_front r;
      noted = give_noted r;
      found = give_near r;
      begun = give_begun r;
      unlocked = give_unlocked r;
    }

pub release-requires-clause-ours : goal.release-requires-clause-ours
release-requires-clause-ours c =
    let r = node_for c.args.turn.kept c.requires.past.1 (sym c.eq.ensures ∙ c.if-eq.false) c.in-Some.ensures.ready c.ready_node.ensures.law in
    installed_ours c.in-Installed.ensures.tried (past_ours r.past)

pub returns-in_default-answer : goal.returns-in_default-answer
returns-in_default-answer c = record {
  given = λ b d. lost_turn (node_for c.args.turn.kept d (sym c.eq.ensures ∙ c.if-eq.false) c.in-Some.ensures.ready c.ready_node.ensures.law)
      c.in_default-answer.ensures.tried c.try_install-answer.ensures.law;
}

pub returns : goal.returns
returns c = record {
  given = λ b d. won_told (node_for c.args.turn.kept d (sym c.eq.ensures ∙ c.if-eq.false) c.in-Some.ensures.ready c.ready_node.ensures.law)
      c.in-Installed.ensures.tried c.release.ensures.released c.release.ensures.law;
}
