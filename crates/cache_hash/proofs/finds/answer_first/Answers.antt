use Rattle.std.proofs.Common.{◌≡◌, ◌∙◌, ap, length}
use Rattle.cache_hash.proofs.FirstNode.{first_found, first_ours, first_ready, may_first}
use Rattle.cache_hash.proofs.Found.{may_find}
use Rattle.cache_hash.specs.Calls.{find_reply}
use Rattle.seat_history.specs.declared.call.Call.TheVariants.{Find}
use Rattle.seat_history.specs.declared.reply.Reply.{Reply}
use Rattle.step_rules.specs.SeatData.{SeatData}
use Rattle.step_rules.specs.Steps.{stepped}
use Rattle.step_rules.specs.Views.{stood_view}
use Rattle.cache_hash.proofs.finds.answer_first.Goals as goal

pub stand_now-requires : goal.stand_now-requires
stand_now-requires c = let k = c.requires.past.1 in record { ours = first_ours k; may = rw c.reply_of.ensures (may_find (may_first k)) }

pub returns : goal.returns
returns c = record {
  ends = λ before k.
      let u : SeatData = c.args.seat.now in
      let stood : c.stand_now.new.seat ≡ stepped (stood_view (length u.view.seen) (Find c.args.key) (find_reply c.args.found) u.view) u =
      c.stand_now.ensures.seat ∙ ap (λ (r : Reply). stepped (stood_view (length u.view.seen) (Find c.args.key) r u.view) u) c.reply_of.ensures in
      (first_ready k c.stand_now.new.seat stood c.stand_now.ensures.law, first_found k c.stand_now.new.seat stood c.stand_now.ensures.law);
}
