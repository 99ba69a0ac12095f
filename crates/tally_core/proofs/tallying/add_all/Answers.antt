use Rattle.std.proofs.Common.{◌∙◌, ◌<◌, ℕ, slice_index_or, subst, sym}
use Rattle.big_atomic.proofs.Jobs.{if_ok, jobs_back}
use Rattle.big_atomic.specs.Seats.{Stays}
use Rattle.tally_core.proofs.Works.{all_each}
use Rattle.tally_core.specs.Drawing.{Drawer, HasWorked}
use Rattle.tally_core.proofs.tallying.add_all.Goals as goal

pub returns-clause-back : goal.returns-clause-back
returns-clause-back g c = if_ok c.map_vec.result (λ all long each.
    jobs_back (λ (one : Drawer). one.seat) (λ (one : Drawer). one.seat) c.args.drawers.items all.items (sym all.ok.0 ∙ (long ∙ c.args.drawers.ok.0))
    (λ i d e l. let k = (each i d l).1 in subst (λ (one : Drawer). Stays one.seat (slice_index_or all.items i d).seat) (sym (k.job_is e)) k.call.met.1))
    c.map_vec.ensures.len c.map_vec.ensures.each

pub returns-clause-worked : goal.returns-clause-worked
returns-clause-worked g c = if_ok c.map_vec.result (λ all long each.
    all_each (HasWorked c.args.shared.now c.args.batches.now c.args.pairs.now) all.items
    (λ i d l. let in_jobs = subst (λ (n : ℕ). i < n) (sym all.ok.0 ∙ (long ∙ c.args.drawers.ok.0)) l in (each i d in_jobs).1.call.met.0))
    c.map_vec.ensures.len c.map_vec.ensures.each
