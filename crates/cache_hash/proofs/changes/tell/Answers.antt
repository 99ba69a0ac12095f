use Rattle.std.proofs.Common.{◌∙◌, length}
use Rattle.cache_hash.proofs.Progress.{going_of}
use Rattle.cache_hash.proofs.Told.{has_told, knows_cleared, may_tell}
use Rattle.step_rules.specs.Claims.{BACK}
use Rattle.step_rules.specs.SeatData.{SeatData}
use Rattle.step_rules.specs.Steps.{stepped, unnoted}
use Rattle.step_rules.specs.Views.{cleared_view, stood_view}
use Rattle.cache_hash.proofs.changes.tell.Goals as goal

pub clear_walk-requires : goal.clear_walk-requires
clear_walk-requires c = record { ours = going_of c.requires.past.1.going }

pub answer_now-requires : goal.answer_now-requires
answer_now-requires c =
    let k = knows_cleared c.requires.past.1 c.clear_walk.ensures.cleared c.clear_walk.ensures.law in
    record { ours = going_of k.knows.going; may = rw c.call_of.ensures (rw c.reply_told-reply.ensures (may_tell k)) }

pub returns : goal.returns
returns c = record {
  ends = λ b k.
      let r = knows_cleared k c.clear_walk.ensures.cleared c.clear_walk.ensures.law in
      let u : SeatData = c.clear_walk.new.seat in
      has_told r (c.answer_now.ensures.seat
      ∙ (λ i. stepped (stood_view (length u.view.seen) (c.call_of.ensures i) (c.reply_told-reply.ensures i) (cleared_view BACK u.view)) (unnoted BACK u)))
      c.answer_now.ensures.law;
}
