use Rattle.std.proofs.Common.{◌≡◌, ◌∙◌, ap, length}
use Rattle.cache_hash.proofs.Finding.{find_found, find_ready, may_end, of_finding}
use Rattle.cache_hash.proofs.Found.{may_find, of_may}
use Rattle.cache_hash.specs.Calls.{find_reply}
use Rattle.seat_history.specs.declared.call.Call.TheVariants.{Find}
use Rattle.seat_history.specs.declared.reply.Reply.{Reply}
use Rattle.step_rules.specs.Claims.{BACK}
use Rattle.step_rules.specs.SeatData.{SeatData}
use Rattle.step_rules.specs.Steps.{stepped, unnoted}
use Rattle.step_rules.specs.Views.{cleared_view, stood_view}
use Rattle.cache_hash.proofs.finds.answer_find.Goals as goal

pub clear_walk-requires : goal.clear_walk-requires
clear_walk-requires c = let k = c.requires.past.1 in record { ours = of_finding k.ready.ours k.finding }

pub answer_now-requires : goal.answer_now-requires
answer_now-requires c =
    let k = c.requires.past.1 in
    let m = may_end c.clear_walk.new.seat k c.clear_walk.ensures.cleared c.clear_walk.ensures.law.sound in
    record { ours = of_may m.may k.ready.ours; may = rw c.reply_of.ensures (may_find m.may) }

pub returns : goal.returns
returns c = record {
  ends = λ before k.
      let u : SeatData = c.clear_walk.new.seat in
      let m = may_end u k c.clear_walk.ensures.cleared c.clear_walk.ensures.law.sound in
      let stood : c.answer_now.new.seat ≡ stepped (stood_view (length u.view.seen) (Find c.args.key) (find_reply c.args.found) (cleared_view BACK u.view)) (unnoted BACK u) =
      c.answer_now.ensures.seat ∙ ap (λ (r : Reply). stepped (stood_view (length u.view.seen) (Find c.args.key) r (cleared_view BACK u.view)) (unnoted BACK u)) c.reply_of.ensures in
      (find_ready m c.args.shared.now c.answer_now.new.seat k.ready stood c.answer_now.ensures.law, find_found m c.answer_now.new.seat stood c.answer_now.ensures.law);
}
