use Rattle.std.proofs.Common.{◌∙◌, ap, arith, length}
use Rattle.worker_gate.proofs.Numbers.{length_all_below}
use Rattle.worker_gate.specs.Seats.{BatchSeatData}
use Rattle.worker_gate.specs.declared.view.BatchPlan.{BatchPlan}
use Rattle.tally_core.proofs.sharing.share_batches.Goals as goal

pub split_places-requires-clause-workers : goal.split_places-requires-clause-workers
split_places-requires-clause-workers c = (
  ap (λ (s : BatchSeatData). length s.view.numbers) c.in_ok-batches.ensures.seat
      ∙ (length_all_below c.in_ok-batches.batches.plan.seats ∙ ap (λ (p : BatchPlan). p.seats) c.in_ok-batches.ensures.plan),
  omega (arith, c.requires.workers.0, c.len-workers.ensures),
)

pub returns-clause-no_draw : goal.returns-clause-no_draw
returns-clause-no_draw c =
    c.in_ok-drawers.ensures.no_draw c.in_ok-batches.batches c.in_ok-places.ensures.undrawn (ap (λ (p : BatchPlan). p.count) c.in_ok-batches.ensures.plan)
