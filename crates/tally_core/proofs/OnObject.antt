-- What the closed object has of all workers of a tally.
use Rattle.std.proofs.Common.{◌≡◌, ◌∙◌, ℕ, ◌+◌, ◌*◌, ◌<◌, ◌≤◌, ◌^◌, Bool, true, false, All, List, [], get_or, length, map, refl, sym, ap, subst, arith}
use Rattle.std.specs.Prelude.{flat_map}
use Rattle.std.proofs.lemmas.List.{get_or-map, length-map, take_all}
use Rattle.std.specs.List.{AllZip}
use Rattle.big_atomic.proofs.SeatNumbers.{themselves}
use Rattle.big_atomic.specs.Seats.{IsUnused, all_numbers}
use Rattle.flow_fold.specs.Flows.{Flows, HasRisingKeys, value_in}
use Rattle.flow_fold.specs.Fold.{IsFold}
use Rattle.step_rules.specs.Closing.{ClosedData}
use Rattle.step_rules.specs.Layout.{nodes}
use Rattle.step_rules.specs.Line.{stands_by}
use Rattle.step_rules.specs.SeatData.{ObjectData, SeatData}
use Rattle.step_rules.specs.Views.{count_up, number}
use Rattle.step_rules.specs.declared.plan.Plan.{Plan}
use Rattle.step_rules.specs.declared.view.Stand.{Stand}
use Rattle.tally_core.proofs.ClosedWorkers.{AreInRow, some_of, worker_alone, worker_stands, workers_long}
use Rattle.tally_core.proofs.Batches.{each_place, pairs_there}
use Rattle.tally_core.proofs.InOrder.{all_stands_are, counted, in_order}
use Rattle.tally_core.proofs.Joined.{flat_joined}
use Rattle.tally_core.proofs.Rows.{batches_joined, batches_of_one, below_joined, by_joined, first_ended}
use Rattle.tally_core.proofs.SeatStands.{items_numbered}
use Rattle.tally_core.proofs.Many.{many}
use Rattle.tally_core.proofs.Summed.{folded}
use Rattle.tally_core.specs.Adding.{Adds, HasAdded, HasFlows, HasMoreKeys, HasTallied, IsAnswered, IsTallied, adding_by, adding_in, flow_of, plan_of_tally}
use Rattle.tally_core.specs.Drawing.{Drawer, HasNoDraw, HasWorked, any_ended, batches_told, draws_told, drawn_by}
use Rattle.tally_core.specs.Draws.{batches_in, batches_of, draws_below, draws_by, drawn_pairs}
use Rattle.tally_core.specs.Tallying.{HasAddedUp, HaveBegun, HaveWorked, IsFullAt, drawn_at, full_at, joined}
use Rattle.tally_core.specs.Workers.{AreDone, HasClosed, HasSeats, IsDone, seats_of}
use Rattle.tally_core.specs.declared.worker.Worker.{Worker}
use Rattle.tally_core.specs.declared.draws.Draw.{Draw}
use Rattle.worker_gate.specs.Numbers.{EachOnce}
use Rattle.worker_gate.specs.Seats.{BatchesData}

-- a plan within the limits of a tally isn't too large
pub plan_fits : (pairs : Flows) (workers flows buckets : ℕ) → workers * (2 * flows + 4 * workers + 1) + buckets ≤ 2 ^ 24 → nodes (plan_of_tally pairs workers flows buckets) ≤ 2 ^ 24
unfolding nodes
plan_fits pairs workers flows buckets fits = omega (arith, fits)

-- a new object has as many seats as its plan
pub seats_long : {p : Plan} {shared : ObjectData} {seats : List SeatData} → HasSeats p shared seats → length seats ≡ p.seats
seats_long {p} {seats = seats} has = (items_numbered (λ (s : SeatData). s) seats p.seats (ap all_numbers (themselves seats) ∙ has.numbers) (λ j e k. (has.unused j e k).one)).0

-- workers of the same seats are done
pub seats_done : {T U : Type 0} {shared : ObjectData} (left : List (Worker T)) (right : List (Worker U)) → seats_of left ≡ seats_of right → AreDone shared right → AreDone shared left
seats_done {T} {U} {shared} left right same done i d l =
    let long : length left ≡ length right = sym (length-map left (λ (one : Worker T). one.seat)) ∙ (ap length same ∙ length-map right (λ (one : Worker U). one.seat)) in
    let e : Worker U = some_of right (omega (arith, l, long)) in
    subst (IsDone shared)
    (sym (get_or-map (λ (one : Worker U). one.seat) right i e d.seat (omega (arith, l, long))) ∙ (ap (λ (seats : List SeatData). get_or seats i d.seat) (sym same)
    ∙ get_or-map (λ (one : Worker T). one.seat) left i d d.seat l))
    (done i e (omega (arith, l, long)))

-- workers with their seats and their places at the batches
pub have_begun : {p : Plan} {shared : ObjectData} {seats : List SeatData} {batches : BatchesData} (drawers : List Drawer) → HasSeats p shared seats → seats_of drawers ≡ seats
    → All (HasNoDraw batches) drawers → HaveBegun shared batches drawers
have_begun {shared = shared} drawers has are no_draw i d l = record {
  unused = subst (IsUnused shared) (get_or-map (λ (one : Drawer). one.seat) drawers i d d.seat l)
      (subst (All (IsUnused shared)) (sym are) has.unused i d.seat (omega (arith, l, length-map drawers (λ (one : Drawer). one.seat))));
  no_draw = no_draw i d l;
}

-- what the worker of a number did
abbrev Works : ObjectData → BatchesData → Flows → ℕ → Drawer → Type 0
Works shared batches pairs w one = HasWorked shared batches pairs one

module _ {shared : ObjectData} {batches : BatchesData} (workers : ℕ) (pairs : Flows) (drawers : List Drawer) {closed : ClosedData} (worked : HaveWorked shared batches pairs drawers)
    (closes : HasClosed shared (seats_of drawers) closed) (whole : all_numbers (seats_of drawers) ≡ count_up 0 workers) where
  in_row : AreInRow (Works shared batches pairs) drawers workers
  in_row = record { each = worked; ones = λ i d l. record { law = (worked i d l).done.law; one = (worked i d l).one }; whole = whole }

  -- what one of them did
  module _ (x : ℕ) (d : Drawer) (l : x < length drawers) where
    own : HasWorked shared batches pairs (get_or drawers x d)
    own = worked x d l

    full_is : full_at drawers x ≡ (get_or drawers x d).told.full
    full_is = get_or-map (λ (one : Drawer). one.told.full) drawers x d false l

    drawn_is : drawn_at drawers x ≡ (get_or drawers x d).told.drawn.items
    drawn_is = get_or-map (λ (one : Drawer). one.told.drawn.items) drawers x d [] l

    added : HasAdded (drawn_pairs pairs (drawn_at drawers x)) (full_at drawers x) (stands_by x closed.stands)
    added = subst (λ (z : List ℕ × Bool × List Stand). HasAdded (drawn_pairs pairs z.0) z.1 z.2)
        (λ i. (sym drawn_is i, sym full_is i, sym (worker_stands in_row closes x d l) i)) own.added

    draws_here : drawn_by (number (get_or drawers x d).seat.view) (get_or drawers x d).told.drawn.items ≡ drawn_by x (drawn_at drawers x)
    draws_here = λ i. drawn_by (row_number i) (sym drawn_is i)
      where
        row_number : number (get_or drawers x d).seat.view ≡ x
        row_number = (items_numbered (λ (one : Drawer). one.seat) drawers workers whole (λ j e k. (worked j e k).one)).1 x d l

  pub drawers_long : length drawers ≡ workers
  drawers_long = workers_long in_row

  at_least : (w : ℕ) → w < workers → w < length drawers
  at_least w l = omega (arith, l, workers_long in_row)

  -- each worker added pairs of its batches
  has_tallied : shared.plan.seats ≡ workers → HasTallied workers pairs (drawn_at drawers) (full_at drawers) closed
  has_tallied seats = record {
    closed_is = (closes.closed_is.0, closes.closed_is.1, closes.closed_is.2 ∙ (whole ∙ ap (count_up 0) (sym (ap (λ (p : Plan). p.seats) closes.plan_is ∙ seats))));
    law = closes.law;
    workers_are = ap (λ (p : Plan). p.seats) closes.plan_is ∙ seats;
    added = λ w l. let within = at_least w l in added w (some_of drawers (omega (arith, within))) within;
    alone = λ w l. let within = at_least w l in worker_alone in_row closes w (some_of drawers (omega (arith, within))) within;
  }

  -- the lists of all workers
  rows : {X : Type 0} (f : Drawer → List X) (lists : ℕ → List X) → ((i : ℕ) (d : Drawer) → i < length drawers → f (get_or drawers i d) ≡ lists i) → 0 < workers
      → flat_map f drawers ≡ joined workers lists
  rows f lists each some_workers =
      let long = workers_long in_row in
      sym (ap (flat_map f) (take_all workers drawers (omega (arith, long)))) ∙ flat_joined f drawers lists workers (omega (arith, long)) each (some_of drawers (omega (arith, long, some_workers)))

  -- what all of them did
  pub added_up : {flows buckets : ℕ} {full : Bool} {draws : List Draw} → shared.plan ≡ plan_of_tally pairs workers flows buckets → 0 < workers
      → (full ≡ true → (w : ℕ) × IsFullAt drawers w) → (full ≡ false → (w : ℕ) → full_at drawers w ≡ false) → draws ≡ draws_told drawers
      → (any_ended drawers ≡ true → EachOnce (batches_of (length pairs)) (batches_told drawers)) → HasAddedUp workers flows buckets pairs closed draws full
  added_up plan some_workers stopped none told once = record {
    plan_is = closes.plan_is ∙ plan;
    callers = closes.callers;
    drawn = drawn_at drawers;
    was_full = full_at drawers;
    tallied = has_tallied (ap (λ (p : Plan). p.seats) plan);
    draws_are = told ∙ rows (λ (one : Drawer). drawn_by (number one.seat.view) one.told.drawn.items) (λ w. drawn_by w (drawn_at drawers w)) draws_here some_workers;
    once = λ e. subst (EachOnce (batches_of (length pairs))) (rows (λ (one : Drawer). one.told.drawn.items) (drawn_at drawers) (λ i d l. sym (drawn_is i d l)) some_workers)
        (once (first_ended drawers worked (none e) (omega (arith, some_workers, workers_long in_row))));
    some = λ e. let one = stopped e in (one.0, omega (arith, one.1.0, workers_long in_row), one.1.1);
    none = none;
  }

-- where one was answered Full there are more keys
pub too_many : {workers flows buckets : ℕ} {pairs : Flows} {closed : ClosedData} {draws : List Draw} {full : Bool} → HasAddedUp workers flows buckets pairs closed draws full → full ≡ true
    → HasMoreKeys flows pairs
too_many {workers} {flows} {buckets} {pairs} {closed} added full =
    let one = added.some full in
    many pairs workers flows buckets added.drawn added.was_full closed one.0 added.plan_is added.tallied one.1 one.2

module _ {workers flows buckets : ℕ} {pairs : Flows} {closed : ClosedData} {draws : List Draw} {full : Bool} (added : HasAddedUp workers flows buckets pairs closed draws full)
    (not_full : full ≡ false) (found : Flows) (has : HasFlows closed found) where
  tallied : HasTallied workers pairs added.drawn (λ _. false) closed
  tallied = subst (λ (f : ℕ → Bool). HasTallied workers pairs added.drawn f closed) (λ i w. added.none not_full w i) added.tallied

  once : EachOnce (batches_of (length pairs)) (joined workers added.drawn)
  once = added.once not_full

  -- the closed object's pairs are more than there may be
  pub more_found : flows < length found → HasMoreKeys flows pairs
  more_found more =
      let fold = folded workers pairs added.drawn closed has.pairs once tallied has.are has.in_range in
      (map flow_of has.pairs, fold.0, fold.1, subst (λ (l : Flows). flows < length l) has.flows_are more)

  all_added : (w : ℕ) → w < workers → AllZip Adds (drawn_pairs pairs (added.drawn w)) (adding_in (stands_by w closed.stands))
  all_added w l =
      let own = tallied.added w l in
      subst (λ (l : Flows). AllZip Adds l (adding_in (stands_by w closed.stands))) (take_all own.count (drawn_pairs pairs (added.drawn w)) (omega (arith, own.all refl))) own.added

  batches_are : batches_in draws ≡ joined workers added.drawn
  batches_are = ap batches_in added.draws_are ∙ batches_joined workers added.drawn

  -- or they are what all pairs add up to
  pub all_found : IsTallied (plan_of_tally pairs workers flows buckets) pairs found closed draws
  all_found =
      let fold = folded workers pairs added.drawn closed has.pairs once tallied has.are has.in_range in
      let order = in_order workers pairs added.drawn closed.stands all_added in
      let callers = subst (λ (p : Plan). All (λ (s : Stand). s.by < p.seats) closed.stands) added.plan_is added.callers in
      let each : EachOnce (batches_of (length pairs)) (batches_in draws) = subst (EachOnce (batches_of (length pairs))) (sym batches_are) once in record {
        plan_is = added.plan_is;
        closed_is = tallied.closed_is;
        callers = callers;
        none_full = all_stands_are IsAnswered workers closed.stands callers (λ w l. (tallied.added w l).ends);
        closed_pairs = has;
        rising = subst HasRisingKeys (sym has.flows_are) fold.0;
        fold = subst (λ (l : Flows). IsFold pairs (value_in l)) (sym has.flows_are) fold.1;
        draws_are = record { rising = subst (λ (l : List Draw). draws_below workers l ≡ l) (sym added.draws_are) (below_joined workers added.drawn); each_once = each };
        stands = λ w l. subst (λ (b : List ℕ). AllZip Adds (drawn_pairs pairs b) (adding_in (stands_by w closed.stands)))
            (sym (ap (λ (l : List Draw). batches_in (draws_by w l)) added.draws_are ∙ (ap batches_in (by_joined workers added.drawn w l) ∙ batches_of_one w (added.drawn w))))
            (all_added w l);
        in_order = subst (λ (l : Flows). AllZip Adds l (adding_by workers closed.stands)) (sym (pairs_there pairs (batches_in draws)))
            (subst (λ (b : List ℕ). AllZip Adds (drawn_pairs pairs b) (adding_by workers closed.stands)) (sym batches_are) order);
        each_place = each_place (length pairs) (batches_in draws) each;
        counted = counted workers pairs (joined workers added.drawn) closed.stands once callers order;
      }
