use Rattle.std.proofs.Common.{◌∙◌, ℕ, ◌<◌, All, ap, slice_index_or, subst, sym}
use Rattle.std.proofs.Math.ListN.{get_or-map}
use Rattle.std.proofs.lemmas.List.{length-map}
use Rattle.big_atomic.proofs.Jobs.{if_ok, jobs_back}
use Rattle.big_atomic.proofs.SeatNumbers.{themselves}
use Rattle.big_atomic.specs.Seats.{AreBack, IsUnused, Stays}
use Rattle.step_rules.specs.SeatData.{SeatData}
use Rattle.stock_room.proofs.session.reserve_in_threads.Goals as goal

pub map_vec-requires-after_bounds : goal.map_vec-requires-after_bounds
map_vec-requires-after_bounds g c κs within i job l is =
    let jobs = c.in_ok-jobs.jobs.items in
    let seat : SeatData × ℕ → SeatData = λ job. job.0 in
    let all = subst (All (IsUnused c.args.shared.now)) (sym c.in_ok-jobs.ensures) c.requires.unused in
    let unused = subst (IsUnused c.args.shared.now) (get_or-map seat jobs i job ∙ sym (ap seat is)) (all i job.0 (subst (λ n. i < n) (sym (length-map jobs seat)) l)) in
    (c.requires.some, (c.requires.room, (c.requires.parts, unused)))

pub returns-clause-back : goal.returns-clause-back
returns-clause-back g c = if_ok c.map_vec.result (λ back long each.
    subst (λ seats. AreBack seats back.items) c.in_ok-jobs.ensures
    (subst (AreBack _) (themselves back.items)
    (jobs_back (λ (job : SeatData × ℕ). job.0) (λ (one : SeatData). one) c.in_ok-jobs.jobs.items back.items (sym back.ok.0 ∙ (long ∙ c.in_ok-jobs.jobs.ok.0))
    (λ i d e l. let k = (each i d l).1 in subst (λ (job : SeatData × ℕ). Stays job.0 (slice_index_or back.items i d)) (sym (k.job_is e)) k.call.met.1))))
    c.map_vec.ensures.len c.map_vec.ensures.each
