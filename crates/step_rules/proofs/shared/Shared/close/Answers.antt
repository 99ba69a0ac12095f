use Rattle.std.proofs.Common.{◌≡◌, ◌<◌, true, length, ℕ, ◌+◌, List, [], ◌∙◌, ap, subst, sym}
use Rattle.std.specs.Mem.Slots.{slots_items}
use Rattle.step_rules.specs.Closing.{EndsWith, live_nodes}
use Rattle.step_rules.specs.History.{IsHistory}
use Rattle.step_rules.specs.Lawful.{Lawful}
use Rattle.step_rules.specs.Layout.{nodes}
use Rattle.step_rules.specs.Line.{InOneLine}
use Rattle.step_rules.specs.SeatData.{IsSeat, ObjectData, SeatData}
use Rattle.step_rules.specs.World.{has}
use Rattle.step_rules.specs.declared.plan.Plan.{Plan}
use Rattle.step_rules.specs.declared.view.View.{View}
use Rattle.step_rules.proofs.Line.Closings.{Closes, closes, none_lost}
use Rattle.step_rules.proofs.Ties.Joining.{quiet_lists}
use Rattle.step_rules.proofs.Ties.Tied.{lawful}
use Rattle.step_rules.proofs.shared.Shared.close.Goals as goal

module _ (c : goal.After-drop-seat-inside-3) where
  object_plan : c.args.self.plan ≡ c.self.inside.plan
  object_plan = sym (ap (λ (o : ObjectData). o.plan) c.self.view_is)

  seat_plan : c.seat.inside.inner.me.0.plan ≡ c.self.inside.plan
  seat_plan = ap (λ (z : SeatData). z.view.plan) c.seat.view_is ∙ (c.requires.ours.plan ∙ object_plan)

  all : length c.seat.inside.inner.me.0.numbers ≡ c.self.inside.plan.seats
  all = ap (λ (z : SeatData). length z.view.numbers) c.seat.view_is ∙ (c.requires.whole ∙ ap (λ (p : Plan). p.seats) object_plan)

  none : c.seat.inside.holding.items ≡ []
  none = ap (λ (z : SeatData). z.holding) c.seat.view_is ∙ quiet_lists c.args.seat c.requires.quiet

  closing : Closes c.self.inside.plan (slots_items c.close_with-words.result.words) c.seat.inside.inner.me.0
  closing = let f = c.close_with-words.ensures.values.2 in let key = c.self.invariant.2 in
      subst (λ (z : Plan × List ℕ). Closes z.0 z.1 c.seat.inside.inner.me.0) (λ i. (sym key i, f.2 i))
      (closes c.self.inside.table.shared.key f.0 c.seat.inside.inner.id c.seat.inside.inner.me.0 f.1.0 f.1.1 (all ∙ ap (λ (p : Plan). p.seats) key))

  last_view : c.seat.inside.inner.me.0 ≡ c.new-last.result.view
  last_view = sym c.new-last.ensures.1

  last_is : c.new-last.result.view ≡ c.args.seat.view
  last_is = c.new-last.ensures.1 ∙ ap (λ (z : SeatData). z.view) c.seat.view_is

  counted : length c.seat.inside.free.items + live_nodes c.self.inside.plan c.new-last.result.view.seen + length c.seat.inside.retired.items ≡ nodes c.self.inside.plan
  counted = subst (λ (v : View). length c.seat.inside.free.items + live_nodes c.self.inside.plan v.seen + length c.seat.inside.retired.items ≡ nodes c.self.inside.plan) last_view
      (none_lost c.self.inside.plan c.seat.inside c.seat.invariant none seat_plan all)

pub invariant_of-result : goal.invariant_of-result
invariant_of-result c = let k = c.self.invariant in (
  c.close_with-words.ensures.values.0,
  c.close_with-words.ensures.counts.1 ∙ k.6,
  subst (λ (v : View). EndsWith c.self.inside.plan (slots_items c.close_with-words.result.words) v.seen) (last_view c) (closing c).ends,
  counted c,
  k.1,
  k.0,
  k.4,
  k.5,
  subst (λ (v : View). IsHistory c.self.inside.plan v.seen) (last_view c) (closing c).history,
)

pub returns : goal.returns
returns c = record {
  closed = record {
    plan = sym (c.requires.ours.plan ∙ object_plan c);
    history = ap (λ (v : View). v.seen) (last_is c);
    stands = ap (λ (v : View). v.stands) (last_is c);
    free = ap (λ (z : SeatData). z.free) c.seat.view_is;
    retired = c.seat.invariant.4 ∙ ap (λ (z : SeatData). z.view.retired) c.seat.view_is;
    whole = subst (λ (v : View). IsHistory c.self.inside.plan v.seen) (last_view c) (closing c).history;
    callers = subst (λ (z : SeatData). (x : ℕ) → x < c.self.inside.plan.seats → has z.view.numbers x ≡ true) c.seat.view_is (closing c).callers;
    lawful = subst (λ (z : SeatData × View). Lawful c.self.inside.plan z.0.view.numbers z.1.seen z.1.stands) (λ i. (c.seat.view_is i, last_view c i)) (closing c).lawful;
    line = subst (λ (v : View). InOneLine c.self.inside.plan v.seen v.stands) (last_view c) (closing c).line;
    counted = counted c;
  };
  law = subst IsSeat c.seat.view_is (lawful c.seat.inside c.seat.invariant);
}
