use Rattle.std.proofs.Common.{◌≡◌, ◌∙◌, ◌≤◌, ◌^◌, List, ℕ, ap, arith, false, subst, sym, true}
use Rattle.big_atomic.specs.Seats.{all_numbers}
use Rattle.step_rules.specs.Layout.{nodes}
use Rattle.step_rules.specs.SeatData.{SeatData}
use Rattle.step_rules.specs.Views.{count_up}
use Rattle.step_rules.specs.declared.plan.Plan.{Plan}
use Rattle.tally_core.proofs.OnObject.{added_up, drawers_long, have_begun, plan_fits, seats_done, seats_long}
use Rattle.tally_core.specs.Drawing.{Drawer, batches_told, draws_told}
use Rattle.tally_core.specs.Tallying.{IsFullAt, full_at}
use Rattle.tally_core.specs.Workers.{HasClosed}
use Rattle.worker_gate.specs.Numbers.{EachOnce}
use Rattle.tally_core.proofs.tallying.add_on_object.Goals as goal

pub open_seats-requires-clause-fits : goal.open_seats-requires-clause-fits
open_seats-requires-clause-fits g c =
    subst (λ (p : Plan). nodes p ≤ 2 ^ 24) (sym c.tally_plan-plan.ensures) (plan_fits c.args.pairs.now c.args.workers c.args.flows c.args.buckets c.requires.fits)

pub share_batches-requires-clause-workers : goal.share_batches-requires-clause-workers
share_batches-requires-clause-workers g c =
    let seats : c.tally_plan-plan.result.seats ≡ c.args.workers = ap (λ (p : Plan). p.seats) c.tally_plan-plan.ensures in
    let long = seats_long c.in_ok-shared.ensures.opened in
    (omega (arith, long, seats, c.requires.workers.0), omega (arith, long, seats, c.requires.workers.1))

pub add_all-requires-clause-begun : goal.add_all-requires-clause-begun
add_all-requires-clause-begun g c _ _ = have_begun c.in_ok-batches.drawers.items c.in_ok-shared.ensures.opened c.in_ok-batches.ensures.seats c.in_ok-batches.ensures.no_draw

pub close_all-closed-requires-clause-done : goal.close_all-closed-requires-clause-done
close_all-closed-requires-clause-done g c =
    seats_done c.in_ok-seats.seats.items c.in_ok-drawers.drawers.items c.in_ok-seats.ensures.seats (λ i d l. (c.in_ok-drawers.ensures.worked i d l).done)

pub returns : goal.returns
returns g c =
    let opened = c.in_ok-shared.ensures.opened in
    let drawers : List Drawer = c.in_ok-drawers.drawers.items in
    let worked = c.in_ok-drawers.ensures.worked in
    let plan = opened.plan_is ∙ c.tally_plan-plan.ensures in
    let seats : c.tally_plan-plan.result.seats ≡ c.args.workers = ap (λ (p : Plan). p.seats) c.tally_plan-plan.ensures in
    let whole = c.in_ok-drawers.ensures.back.numbers ∙ (ap all_numbers c.in_ok-batches.ensures.seats ∙ (opened.numbers ∙ ap (count_up 0) seats)) in
    let closes = subst (λ (l : List SeatData). HasClosed c.in_ok-shared.shared l c.close_all-closed.result) c.in_ok-seats.ensures.seats c.close_all-closed.ensures.closed in
    let told = subst (λ (l : List Drawer). (c.is_any_full-full.result ≡ true → (w : ℕ) × IsFullAt l w) × (c.is_any_full-full.result ≡ false → (w : ℕ) → full_at l w ≡ false))
    c.deref.ensures.value (c.is_any_full-full.ensures.some, c.is_any_full-full.ensures.none) in
    let long = drawers_long c.args.workers c.args.pairs.now drawers worked closes whole in
    let draws = c.in_ok-draws.ensures ∙ ap draws_told c.deref-2.ensures.value in record {
      added = added_up c.args.workers c.args.pairs.now drawers worked closes whole plan c.requires.workers.0 told.0 told.1 draws
          (λ ended. subst (λ n. EachOnce n (batches_told drawers)) c.in_ok-batches.ensures.count
          (c.in_ok-seats.ensures.once ended (omega (arith, long, seats, c.in_ok-batches.ensures.workers, seats_long opened))));
    }
