-- A worker that scans between two pairs.
use Rattle.std.proofs.Common.{◌∙◌, ◌≤◌, ◌+◌, [], append-nil, false, length, ap, subst, sym}
use Rattle.std.specs.List.{AllByRecursion, AllZip}
use Rattle.big_atomic.specs.Ready.{IsReady}
use Rattle.big_atomic.specs.Seats.{Stays}
use Rattle.flow_fold.specs.Flows.{Flows}
use Rattle.hazard_claims.specs.Scanning.{IsScan}
use Rattle.step_rules.specs.SeatData.{ObjectData, SeatData, holds_record}
use Rattle.tally_core.proofs.Attempts.{updates_on}
use Rattle.tally_core.specs.Adding.{Adds, EndsFull, IsTallyCall, adding_in}
use Rattle.tally_core.specs.Attempts.{IsAdding}

-- it goes on as it was: a scan adds no stand, and the seat has seen no more
pub reclaimed : {shared : ObjectData} {before after : SeatData} (added : Flows) → IsReady shared after → IsScan before after
    → IsAdding shared added false before → IsAdding shared added false after
reclaimed {shared} {before} {after} added ready s was = record {
  ready = ready;
  some = was.some;
  one = ap (λ (z : SeatData). length z.view.numbers) s.same ∙ was.one;
  none_held = ap (λ (z : SeatData). holds_record z.view) s.same ∙ was.none_held;
  adds = subst (λ (z : SeatData). AllZip Adds added (adding_in z.view.stands)) (sym s.same) was.adds;
  in_range = was.in_range;
  calls = subst (λ (z : SeatData). AllByRecursion IsTallyCall z.view.stands) (sym s.same) was.calls;
  left = subst (λ (z : SeatData). shared.plan.changes ≤ z.view.changes + length added) (sym s.same) was.left;
  ends = subst (λ (z : SeatData). EndsFull false z.view.stands) (sym s.same) was.ends;
  updates = updates_on added (record {
    plan = ap (λ (z : SeatData). z.view.plan) s.same;
    numbers = ap (λ (z : SeatData). z.view.numbers) s.same;
    stands = ([], ap (λ (z : SeatData). z.view.stands) s.same ∙ sym (append-nil before.view.stands));
    seen = ([], ap (λ (z : SeatData). z.view.seen) s.same ∙ sym (append-nil before.view.seen));
  }) (ap (λ (z : SeatData). z.view.stands) s.same) was.updates;
}

pub reclaimed_stays : {before after : SeatData} → IsScan before after → Stays before after
reclaimed_stays s = record {
  numbers = ap (λ (z : SeatData). z.view.numbers) s.same;
  first = ap (λ (z : SeatData). z.first) s.same;
}
