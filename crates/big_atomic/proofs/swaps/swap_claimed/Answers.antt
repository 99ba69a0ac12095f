use Rattle.std.proofs.Common.{◌≡◌, ◌∙◌, ◌/◌, ℕ, List, not, false, sym, arith}
use Rattle.std.proofs.lemmas.Bool.{not-false, not-true}
use Rattle.big_atomic.proofs.Claimed.{may_load, node_fits}
use Rattle.big_atomic.proofs.Deciding.{decided, past_ours, read_at, read_idle, read_there, swap_agrees, swapped}
use Rattle.big_atomic.proofs.PuttingBack.{none_announced}
use Rattle.big_atomic.proofs.Refusing.{lost_unlike, read_unlike}
use Rattle.big_atomic.specs.declared.answers.Swap.TheVariants.{Full as SwapFull, Yes as SwapYes}
use Rattle.seat_history.proofs.Changed.{words_from_same}
use Rattle.seat_history.specs.Step.{is_same}
use Rattle.step_rules.specs.Claims.{BACK}
use Rattle.big_atomic.proofs.swaps.swap_claimed.Goals as goal

pub overflow_cast-start : goal.overflow_cast-start
overflow_cast-start g c =
    let h = c.requires.past.2 in
    omega (arith, node_fits c.args.reg c.args.start.word c.args.seat.now.view h.at.past.law.sound h.claim.found)

pub read_record-rec-requires : goal.read_record-rec-requires
read_record-rec-requires g c =
    let h = c.requires.past.2 in
    record { ours = past_ours h.at.past; known = may_load BACK (c.args.start.word / 2) c.args.seat.now h.at.past.law.sound (omega arith) h.claim.stands }

-- another record is there
pub refuse-requires : goal.refuse-requires
refuse-requires g c =
    let h = c.requires.past.2 in
    let r = c.read_record-rec.ensures.read in
    let law = c.read_record-rec.ensures.law in
    record {
      past = (
        c.requires.past.0,
        c.requires.past.1,
        read_unlike (read_at h r law) (omega arith) (omega arith) (read_idle h r law) (read_there h r law) (not-true (is_same c.read_record-rec.result c.args.old) (sym c.ne.ensures ∙ c.if-ne.true)),
      );
    }

pub returns-then-ne : goal.returns-then-ne
returns-then-ne g c = record {
  ends = λ b once h.
      let r = c.read_record-rec.ensures.read in
      let law = c.read_record-rec.ensures.law in
      c.refuse.ensures.ends b once
      (read_unlike (read_at h r law) (omega arith) (omega arith) (read_idle h r law) (read_there h r law) (not-true (is_same c.read_record-rec.result c.args.old) (sym c.ne.ensures ∙ c.if-ne.true)));
}

-- the old record is there
was_old : (rec old : List ℕ) → not (is_same rec old) ≡ false → rec ≡ old
was_old rec old is = words_from_same rec old (not-false (is_same rec old) is)

pub give-requires : goal.give-requires
give-requires g c = record {
  past = (
    c.requires.past.0,
    decided c.requires.past.2 c.read_record-rec.ensures.read c.read_record-rec.ensures.law
        (swap_agrees c.args.reg c.read_record-rec.result c.args.old c.args.new (was_old c.read_record-rec.result c.args.old (sym c.ne.ensures ∙ c.if-ne.false))),
  );
}

pub returns-in-Done : goal.returns-in-Done
returns-in-Done g c = record {
  ends = λ b once h.
      let agrees = swap_agrees c.args.reg c.read_record-rec.result c.args.old c.args.new (was_old c.read_record-rec.result c.args.old (sym c.ne.ensures ∙ c.if-ne.false)) in
      swapped SwapYes (c.in-Done.ensures.given b (decided h c.read_record-rec.ensures.read c.read_record-rec.ensures.law agrees)) once.once (λ e. absurd cc);
}

pub returns-in-Full : goal.returns-in-Full
returns-in-Full g c = record {
  ends = λ b once h.
      let agrees = swap_agrees c.args.reg c.read_record-rec.result c.args.old c.args.new (was_old c.read_record-rec.result c.args.old (sym c.ne.ensures ∙ c.if-ne.false)) in
      swapped (SwapFull 1 0) (c.in-Full.ensures.given b (decided h c.read_record-rec.ensures.read c.read_record-rec.ensures.law agrees)) once.once (λ e. absurd cc);
}

-- another caller's change came before
pub put_back_all-requires : goal.put_back_all-requires
put_back_all-requires g c =
    let agrees = swap_agrees c.args.reg c.read_record-rec.result c.args.old c.args.new (was_old c.read_record-rec.result c.args.old (sym c.ne.ensures ∙ c.if-ne.false)) in
    let l = c.in-Moved.ensures.given c.requires.past.0 (decided c.requires.past.2 c.read_record-rec.ensures.read c.read_record-rec.ensures.law agrees) in
    record { ours = past_ours l.at.past; unannounced = none_announced c.give.new.seat.holding c.give.new.seat.view l.at.past.own }

pub refuse-requires-in-Moved : goal.refuse-requires-in-Moved
refuse-requires-in-Moved g c =
    let agrees = swap_agrees c.args.reg c.read_record-rec.result c.args.old c.args.new (was_old c.read_record-rec.result c.args.old (sym c.ne.ensures ∙ c.if-ne.false)) in
    let l = c.in-Moved.ensures.given c.requires.past.0 (decided c.requires.past.2 c.read_record-rec.ensures.read c.read_record-rec.ensures.law agrees) in
    record { past = (c.requires.past.0, c.requires.past.1, lost_unlike l c.put_back_all.ensures.free c.put_back_all.ensures.law) }

pub returns-in-Moved : goal.returns-in-Moved
returns-in-Moved g c = record {
  ends = λ b once h.
      let agrees = swap_agrees c.args.reg c.read_record-rec.result c.args.old c.args.new (was_old c.read_record-rec.result c.args.old (sym c.ne.ensures ∙ c.if-ne.false)) in
      let l = c.in-Moved.ensures.given b (decided h c.read_record-rec.ensures.read c.read_record-rec.ensures.law agrees) in
      c.refuse-in-Moved.ensures.ends b once (lost_unlike l c.put_back_all.ensures.free c.put_back_all.ensures.law);
}
