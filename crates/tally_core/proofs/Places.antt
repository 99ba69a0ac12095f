-- Places at the batches: split off one seat, given to workers, and taken into one again.
use Rattle.std.proofs.Common.{◌≡◌, ◌∙◌, ℕ, ◌+◌, ◌-◌, ◌<◌, ◌≤◌, All, Bool, true, false, ◌||◌, List}
use Rattle.std.proofs.Common.{[], ◌∷◌, ◌++◌, append-nil, append_assoc, length, length-append, refl, sym, ap, subst, arith, vec_capacity}
use Rattle.std.proofs.lemmas.Grind.{flat_map-append}
use Rattle.std.proofs.lemmas.List.{length-drop, length-take}
use Rattle.std.proofs.lemmas.List.Elements.{All-head, All-push, All-tail}
use Rattle.std.proofs.lemmas.List.Folds.{list_any-append}
use mathlib.Core.List.{map-append}
use Rattle.step_rules.specs.SeatData.{SeatData}
use Rattle.tally_core.specs.Drawing.{Drawer, HasNoDraw, IsUndrawn, TellsDrawn, any_ended, batches_told}
use Rattle.tally_core.specs.Workers.{seats_of}
use Rattle.tally_core.specs.declared.worker.Worker.{Worker}
use Rattle.worker_gate.specs.Numbers.{EachOnce}
use Rattle.worker_gate.specs.Seats.{BatchSeatData, BatchesData, IsBatchOf, IsBatchSeat}
use Rattle.worker_gate.specs.Views.{joined_view, left_view, right_view}
use Rattle.worker_gate.specs.declared.view.BatchPlan.{BatchPlan}

-- the first seat has as many numbers left as places are still to come, and the others have one each
pub record HasSplit (batches : BatchesData) (workers next : ℕ) (first : BatchSeatData) (places : List BatchSeatData) : Type 0 where
  pub ours : IsBatchOf batches first
  pub law : IsBatchSeat first
  pub fresh : first.view.fresh ≡ true
  pub left : length first.view.numbers + next ≡ workers + 1
  pub count : length places + 1 ≡ next
  pub undrawn : All (IsUndrawn batches) places

-- before the first split
pub none_split : {batches : BatchesData} {workers : ℕ} {first : BatchSeatData} {places : List BatchSeatData} → IsBatchOf batches first → IsBatchSeat first → first.view.fresh ≡ true
    → length first.view.numbers ≡ workers → places ≡ [] → HasSplit batches workers 1 first places
none_split {batches} ours law fresh long none = record {
  ours = ours;
  law = law;
  fresh = fresh;
  left = omega (arith, long);
  count = omega (arith, ap length none);
  undrawn = subst (All (IsUndrawn batches)) (sym none) (λ i d l. absurd (omega (arith, l)));
}

module _ {batches : BatchesData} {workers next : ℕ} {first : BatchSeatData} {places : List BatchSeatData} (so_far : HasSplit batches workers next first places) where
  pub split_more : {left right : BatchSeatData} {more : List BatchSeatData} → left ≡ record first { view = left_view first.view } → right ≡ record first { view = right_view first.view }
      → IsBatchSeat left × IsBatchSeat right → next < workers → more ≡ places ++ right ∷ [] → HasSplit batches workers (next + 1) left more
  split_more {left} {right} {more} left_is right_is laws below pushed =
      let long = so_far.left in
      let count = so_far.count in
      let fresh : right.view.fresh ≡ true = ap (λ (s : BatchSeatData). s.view.fresh) right_is ∙ so_far.fresh in record {
        ours = record {
          object = ap (λ (s : BatchSeatData). s.object) left_is ∙ so_far.ours.object;
          plan = ap (λ (s : BatchSeatData). s.view.plan) left_is ∙ so_far.ours.plan;
        };
        law = laws.0;
        fresh = ap (λ (s : BatchSeatData). s.view.fresh) left_is ∙ so_far.fresh;
        left = omega (arith, long, below, ap (λ (s : BatchSeatData). length s.view.numbers) left_is, length-take (length first.view.numbers - 1) first.view.numbers);
        count = omega (arith, count, ap length pushed, length-append places (right ∷ []));
        undrawn = subst (All (IsUndrawn batches)) (sym pushed) (All-push (IsUndrawn batches) places right so_far.undrawn (
          record {
            ours = record {
              object = ap (λ (s : BatchSeatData). s.object) right_is ∙ so_far.ours.object;
              plan = ap (λ (s : BatchSeatData). s.view.plan) right_is ∙ so_far.ours.plan;
            };
            law = laws.1;
            one = omega (arith, long, below, ap (λ (s : BatchSeatData). length s.view.numbers) right_is, length-drop (length first.view.numbers - 1) first.view.numbers);
          },
          (laws.1.lawful.fresh fresh).0,
        ));
      }

  pub all_split : {all : List BatchSeatData} → all ≡ places ++ first ∷ [] → workers ≤ next → (length all ≡ workers) × All (IsUndrawn batches) all
  all_split {all} pushed end =
      let long = so_far.left in
      let count = so_far.count in
      let at : next ≡ workers = omega (arith, end, long, so_far.law.lawful.some_number) in (
        omega (arith, count, at, ap length pushed, length-append places (first ∷ [])),
        subst (All (IsUndrawn batches)) (sym pushed) (All-push (IsUndrawn batches) places first so_far.undrawn (
          record { ours = so_far.ours; law = so_far.law; one = omega (arith, long, at) },
          (so_far.law.lawful.fresh so_far.fresh).0,
        )),
      )

-- the first place took in those of all workers but the ones that are left
pub record HasJoined (batches : BatchesData) (all : BatchSeatData) (seats : List SeatData) (left drawers : List Drawer) : Type 0 where
  pub taken : List Drawer
  pub whole : taken ++ left ≡ drawers
  pub seats_are : seats ≡ seats_of taken
  pub ours : IsBatchOf batches all
  pub law : IsBatchSeat all
  pub numbers : length all.view.numbers ≡ length taken
  pub drawn : all.view.drawn ≡ batches_told taken
  pub ended : all.view.ended ≡ any_ended taken
  pub each : All (TellsDrawn batches) left

or_none : (b : Bool) → b ≡ (b || false)
or_none true = refl
or_none false = refl

pub first_joined : {batches : BatchesData} (first : Drawer) {seats : List SeatData} {left drawers : List Drawer} → drawers ≡ first ∷ left → All (TellsDrawn batches) drawers
    → seats ≡ first.seat ∷ [] → HasJoined batches first.told.batches seats left drawers
first_joined {batches} first {seats} {left} {drawers} are each seats_are =
    let all : All (TellsDrawn batches) (first ∷ left) = subst (All (TellsDrawn batches)) are each in
    let own = All-head (TellsDrawn batches) first left all in record {
      taken = first ∷ [];
      whole = sym are;
      seats_are = seats_are;
      ours = own.seat.ours;
      law = own.seat.law;
      numbers = own.seat.one;
      drawn = sym own.drawn ∙ sym (append-nil first.told.drawn.items);
      ended = any_one first;
      each = All-tail (TellsDrawn batches) first left all;
    }
  where
    any_one : (one : Drawer) → one.told.batches.view.ended ≡ any_ended (one ∷ [])
    any_one one = or_none one.told.batches.view.ended

module _ {batches : BatchesData} {all : BatchSeatData} {seats : List SeatData} {left drawers : List Drawer} (so_far : HasJoined batches all seats left drawers) where
  module _ (next : Drawer) (rest : List Drawer) (is : left ≡ next ∷ rest) where
    each_left : All (TellsDrawn batches) (next ∷ rest)
    each_left = subst (All (TellsDrawn batches)) is so_far.each

    pub next_tells : TellsDrawn batches next
    next_tells = All-head (TellsDrawn batches) next rest each_left

    pub next_joined : {new : BatchSeatData} {more : List SeatData} → new ≡ record all { view = joined_view all.view next.told.batches.view } → IsBatchSeat new
        → more ≡ seats ++ next.seat ∷ []
        → HasJoined batches new more rest drawers
    next_joined {new} {more} joined law pushed =
        let numbers = so_far.numbers in
        let one = next_tells.seat.one in record {
          taken = so_far.taken ++ next ∷ [];
          whole = append_assoc so_far.taken (next ∷ []) rest ∙ (ap (λ (l : List Drawer). so_far.taken ++ l) (sym is) ∙ so_far.whole);
          seats_are = pushed ∙ (ap (λ (l : List SeatData). l ++ next.seat ∷ []) so_far.seats_are ∙ sym (map-append (λ (o : Drawer). o.seat) so_far.taken (next ∷ [])));
          ours = record {
            object = ap (λ (s : BatchSeatData). s.object) joined ∙ so_far.ours.object;
            plan = ap (λ (s : BatchSeatData). s.view.plan) joined ∙ so_far.ours.plan;
          };
          law = law;
          numbers = omega (
            arith,
            numbers,
            one,
            ap (λ (s : BatchSeatData). length s.view.numbers) joined,
            length-append all.view.numbers next.told.batches.view.numbers,
            length-append so_far.taken (next ∷ []),
          );
          drawn = ap (λ (s : BatchSeatData). s.view.drawn) joined
              ∙ ((λ i. so_far.drawn i ++ (sym next_tells.drawn ∙ sym (append-nil next.told.drawn.items)) i)
              ∙ sym (flat_map-append (λ (o : Drawer). o.told.drawn.items) so_far.taken (next ∷ [])));
          ended = ap (λ (s : BatchSeatData). s.view.ended) joined
              ∙ ((λ i. so_far.ended i || or_none next.told.batches.view.ended i) ∙ sym (list_any-append (λ (o : Drawer). o.told.batches.view.ended) so_far.taken (next ∷ [])));
          each = All-tail (TellsDrawn batches) next rest each_left;
        }

  -- at the end it took in all
  module _ (none : left ≡ []) where
    taken_all : so_far.taken ≡ drawers
    taken_all = sym (append-nil so_far.taken) ∙ (ap (λ (l : List Drawer). so_far.taken ++ l) (sym none) ∙ so_far.whole)

    pub seats_kept : seats ≡ seats_of drawers
    seats_kept = so_far.seats_are ∙ ap seats_of taken_all

    pub each_drawn : any_ended drawers ≡ true → length drawers ≡ batches.plan.seats → EachOnce batches.plan.count (batches_told drawers)
    each_drawn some long =
        let numbers = so_far.numbers in
        subst (λ (z : ℕ × List ℕ). EachOnce z.0 z.1) (λ i. (ap (λ (p : BatchPlan). p.count) so_far.ours.plan i, (so_far.drawn ∙ ap batches_told taken_all) i))
        (so_far.law.lawful.whole (omega (arith, numbers, ap length taken_all, long, ap (λ (p : BatchPlan). p.seats) so_far.ours.plan)) (so_far.ended ∙ (ap any_ended taken_all ∙ some)))

-- a place that is the last of those left goes to a worker
pub has_no_draw : {batches : BatchesData} (one : Drawer) → IsUndrawn batches one.told.batches → one.told.drawn.items ≡ [] → one.told.full ≡ false
    → batches.plan.count ≤ vec_capacity one.told.drawn → HasNoDraw batches one
has_no_draw one undrawn none not_full room = record {
  tells = record { seat = undrawn.0; drawn = none ∙ sym undrawn.1 };
  none = none;
  not_full = not_full;
  room = room;
}

-- one worker more
pub seats_push : {T : Type 0} (workers : List (Worker T)) (one : Worker T) {more : List (Worker T)} → more ≡ workers ++ one ∷ [] → seats_of more ≡ seats_of workers ++ one.seat ∷ []
seats_push {T} workers one pushed = ap (λ (l : List (Worker T)). seats_of l) pushed ∙ map-append (λ (z : Worker T). z.seat) workers (one ∷ [])

-- the first one
pub first_seat : {T : Type 0} (workers : List (Worker T)) (one : Worker T) {more : List (Worker T)} → more ≡ workers ++ one ∷ [] → workers ≡ [] → seats_of more ≡ one.seat ∷ []
first_seat {T} workers one pushed none = seats_push workers one pushed ∙ ap (λ (l : List (Worker T)). seats_of l ++ one.seat ∷ []) none
