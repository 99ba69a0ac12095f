use Rattle.std.proofs.Common.{refl, rules}
use Rattle.cache_hash.proofs.Prelude.{update_counts, update_fits}
use Rattle.cache_hash.specs.declared.answers.Update.TheVariants.{Done, Full}
use Rattle.visit_counter.proofs.Seats.{visited_more}
use Rattle.visit_counter.specs.Visits.{visits}
use Rattle.visit_counter.proofs.visits.visit.Goals as goal

pub unreachable-requires : goal.unreachable-requires
unreachable-requires c =
    let e = c.in-Full.ensures in
    let answer = Full c.in-Full.need c.in-Full.free in
    (update_fits c.args.shared.now c.args.page answer c.args.seat.now c.update.new.seat c.requires.fits e.ready e.updated).not_full c.in-Full.need c.in-Full.free refl

pub returns-clause-visited : goal.returns-clause-visited
returns-clause-visited c pages =
    let e = c.in-Done.ensures in
    let answer = Done c.in-Done.there in
    visited_more c.args.page (update_fits c.args.shared.now c.args.page answer c.args.seat.now c.update.new.seat c.requires.fits e.ready e.updated)
    (update_counts visits c.args.page answer c.args.seat.now c.update.new.seat (λ there val puts. search rules) e.updated)
