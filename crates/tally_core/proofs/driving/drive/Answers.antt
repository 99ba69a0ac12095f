use Rattle.std.proofs.Common.{◌≡◌, ◌≤◌, ◌^◌, ◌∙◌, ℕ, List, ap, length, subst, sym}
use Rattle.call_script.specs.Script.{MayRun}
use Rattle.seat_history.specs.Object.{blank_object}
use Rattle.seat_history.specs.declared.entry.Entry.{Entry}
use Rattle.step_rules.specs.Layout.{IsPlan, nodes}
use Rattle.step_rules.specs.Views.{count_up}
use Rattle.step_rules.specs.declared.plan.Plan.{Plan}
use Rattle.tally_core.proofs.Limits.{fits, is_plan}
use Rattle.tally_core.proofs.Whole.{all_told, has_driven}
use Rattle.tally_core.specs.Driving.{HasDriven}
use Rattle.tally_core.specs.Workers.{Caller, HasMerged, lines_by, replies_at}
use Rattle.tally_core.proofs.driving.drive.Goals as goal

pub open-requires-clause-plan : goal.open-requires-clause-plan
open-requires-clause-plan g c =
    subst IsPlan (sym c.plan_for-plan.ensures)
    (is_plan c.args.script.now.callers c.args.buckets c.args.share c.args.script.now.lines c.requires.callers c.requires.few c.requires.buckets.1 c.requires.share)

pub open-requires-clause-fits : goal.open-requires-clause-fits
open-requires-clause-fits g c =
    subst (λ (p : Plan). nodes p ≤ 2 ^ 24) (sym c.plan_for-plan.ensures)
    (fits c.args.script.now.callers c.args.buckets c.args.share c.args.script.now.lines c.requires.callers c.requires.buckets.1 c.requires.share.1)

pub merge_replies-requires : goal.merge_replies-requires
merge_replies-requires g c =
    let opened = c.in_ok-shared.ensures.opened in
    let plan = opened.plan_is ∙ c.plan_for-plan.ensures in
    let may = subst (λ (z : ℕ × List Entry). MayRun z.0 blank_object z.1) (λ j. ((sym plan j).seats, sym c.as_slice-lines.ensures j)) c.requires.may in
    let whole = c.in_ok-callers.ensures.back.numbers ∙ (opened.numbers ∙ ap (λ (p : Plan). count_up 0 p.seats) (sym opened.plan_is)) in record {
      all = subst (λ (l : List Caller). (x : ℕ) → length (lines_by x c.as_slice-lines.result.now) ≡ length (replies_at l x)) (sym c.deref.ensures.value)
          (all_told c.in_ok-callers.callers.items c.in_ok-callers.ensures.run whole may);
    }

pub returns : goal.returns
returns g c =
    let opened = c.in_ok-shared.ensures.opened in
    let plan = opened.plan_is ∙ c.plan_for-plan.ensures in
    let may = subst (λ (z : ℕ × List Entry). MayRun z.0 blank_object z.1) (λ j. ((sym plan j).seats, sym c.as_slice-lines.ensures j)) c.requires.may in
    let whole = c.in_ok-callers.ensures.back.numbers ∙ (opened.numbers ∙ ap (λ (p : Plan). count_up 0 p.seats) (sym opened.plan_is)) in
    let merged = subst (λ (l : List Caller). HasMerged c.as_slice-lines.result.now (replies_at l) c.in_ok-replies.replies.items) c.deref.ensures.value c.in_ok-replies.ensures.merged in record {
      driven = subst (λ (z : Plan × List Entry). HasDriven z.0 z.1 c.in_ok-driven.driven c.close_all-closed.result) (λ j. (plan j, c.as_slice-lines.ensures j))
          (has_driven c.in_ok-callers.callers.items c.in_ok-callers.ensures.run merged c.close_all-closed.ensures.closed whole c.in_ok-driven.driven may
          c.in_ok-driven.ensures.contents c.in_ok-driven.ensures.replies);
    }
