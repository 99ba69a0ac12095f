-- A worker of a tally, between its draws.
use Rattle.std.proofs.Common.{◌≡◌, ◌∙◌, ℕ, ◌+◌, ◌-◌, ◌<◌, ◌≤◌, ◌^◌, All, Bool, true, false, not, List, [], ◌∷◌}
use Rattle.std.proofs.Common.{◌++◌, Option, Some, None, append-nil, length, length-append, slice_index_or, take, vec_capacity, Vec, refl, sym, ap, subst, arith}
use Rattle.std.specs.List.{AllZip}
use Rattle.std.specs.declared.alloc.Global.{Global}
use Rattle.std.proofs.Math.Seq.{take-append-add}
use Rattle.std.proofs.lemmas.Grind.{flat_map-append}
use Rattle.std.proofs.lemmas.List.Elements.{All-from_get_or, All-from_recursion}
use Rattle.std.proofs.lemmas.List.{length-take-le, take-take, take_all}
use Rattle.big_atomic.proofs.Sharing.{ready_quiet}
use Rattle.flow_fold.specs.Flows.{Flows}
use Rattle.step_rules.specs.SeatData.{ObjectData, SeatData}
use Rattle.tally_core.proofs.Attempts.{unused_adding}
use Rattle.tally_core.proofs.Batches.{few_drawn}
use Rattle.tally_core.specs.Adding.{Adds, AreInRange, HasAdded, adding_in}
use Rattle.tally_core.specs.Attempts.{AreUpdates, HasAddedFirst, IsAdding, added_of}
use Rattle.tally_core.specs.Drawing.{AreBatchesOf, Drawer, HasBegun, HasDrawn, HasWorked, IsDrawing, TellsDrawn}
use Rattle.tally_core.specs.Draws.{batch_of, batches_of, drawn_pairs}
use Rattle.tally_core.specs.Workers.{IsDone}
use Rattle.worker_gate.specs.Numbers.{AtMostOnce}
use Rattle.worker_gate.specs.Rule.{one_if}
use Rattle.worker_gate.specs.Seats.{BatchSeatData, BatchesData, Draws, IsBatchOf, IsBatchSeat}
use Rattle.worker_gate.specs.declared.view.BatchPlan.{BatchPlan}

-- before its first draw
pub begun : {shared : ObjectData} {batches : BatchesData} {pairs : Flows} {one : Drawer} → HasBegun shared batches one → 0 < shared.plan.buckets
    → IsDrawing shared batches pairs one
begun {shared} {batches} {pairs} {one} h some = record {
  tells = h.no_draw.tells;
  room = h.no_draw.room;
  not_full = h.no_draw.not_full;
  adding = subst (λ (l : List ℕ). IsAdding shared (drawn_pairs pairs l) false one.seat) (sym h.no_draw.none) (unused_adding h.unused some);
}

-- a worker draws no more batches than there are
pub few_draws : {batches : BatchesData} {one : Drawer} → TellsDrawn batches one → length one.told.drawn.items ≤ batches.plan.count
few_draws tells = omega (arith, ap length tells.drawn, tells.seat.law.lawful.few, ap (λ (p : BatchPlan). p.count) tells.seat.ours.plan)

pub few_turns : {pairs : Flows} {workers : ℕ} {batches : BatchesData} {one : Drawer} → TellsDrawn batches one → AreBatchesOf pairs workers batches
    → length pairs ≤ 2 ^ 23 → length one.told.drawn.items < 2 ^ 32
few_turns tells are few = omega (arith, few_draws tells, are.count, few)

-- the worker's stands add the first of these pairs, by one update each, and one more is of the next pair where it is Full
abbrev HasUpdated : Flows → SeatData → Bool → Type 0
HasUpdated pairs seat full = (added : HasAdded pairs full seat.view.stands) × AreUpdates (take (added.count + one_if full) pairs) seat.view

added_first : (pairs : Flows) (full : Bool) (count : ℕ) → count + one_if full ≤ length pairs
    → added_of (take (count + one_if full) pairs) full ≡ take count pairs
added_first pairs false count within = let same : count + 0 ≡ count = omega arith in ap (λ n. take n pairs) same
added_first pairs true count within =
    let same : length (take (count + 1) pairs) - 1 ≡ count = omega (arith, length-take-le (count + 1) pairs within) in
    ap (λ n. take n (take (count + 1) pairs)) same ∙ take-take count (count + 1) pairs (omega arith)

first_within : (full : Bool) (count long : ℕ) → count + one_if full ≤ long → count ≤ long
first_within true count long within = omega (arith, within)
first_within false count long within = omega (arith, within)

has_updated : {shared : ObjectData} (pairs : Flows) (full : Bool) (count : ℕ) {seat : SeatData} → count + one_if full ≤ length pairs
    → IsAdding shared (take (count + one_if full) pairs) full seat → (full ≡ false → count ≡ length pairs) → HasUpdated pairs seat full
has_updated pairs full count {seat} within is all =
    let first = added_first pairs full count within in (
      record {
        count = count;
        within = first_within full count (length pairs) within;
        added = subst (λ (l : Flows). AllZip Adds l (adding_in seat.view.stands)) first is.adds;
        in_range = subst AreInRange first is.in_range;
        calls = is.calls;
        all = all;
        ends = is.ends;
      },
      is.updates,
    )

is_done : {shared : ObjectData} {added : Flows} {full : Bool} {seat : SeatData} → IsAdding shared added full seat → IsDone shared seat
is_done {shared} {seat = seat} is = record { ours = is.ready.ours; law = is.ready.law; quiet = ready_quiet shared seat is.ready is.none_held }

-- its place at the batches after a draw
pub record HasPlace (batches : BatchesData) (old : Drawer) (x : Option ℕ) (place : BatchSeatData) : Type 0 where
  pub draws : Draws old.told.batches place x
  pub ours : IsBatchOf batches place
  pub numbers : place.view.numbers ≡ old.told.batches.view.numbers
  pub law : IsBatchSeat place

module _ {shared : ObjectData} {batches : BatchesData} {pairs : Flows} {old : Drawer} (was : IsDrawing shared batches pairs old) (place : BatchSeatData) where
  -- no batch was left
  pub ended : HasPlace batches old None place
      → HasWorked shared batches pairs (record { seat = old.seat; told = record { batches = place; drawn = old.told.drawn; full = old.told.full } })
  ended now =
      let all = drawn_pairs pairs old.told.drawn.items in
      let whole = subst (HasUpdated all old.seat) (sym was.not_full)
      (has_updated all false (length all) (omega arith)
      (subst (λ (l : Flows). IsAdding shared l false old.seat) (sym (take_all (length all + 0) all (omega arith))) was.adding) (λ _. refl)) in
      record {
        done = is_done was.adding;
        one = was.adding.one;
        tells = record {
          seat = record { ours = now.ours; law = now.law; one = ap length now.numbers ∙ was.tells.seat.one };
          drawn = was.tells.drawn ∙ ap (λ (s : BatchSeatData). s.view.drawn) (sym now.draws.1);
        };
        ended = λ _. ap (λ (s : BatchSeatData). s.view.ended) now.draws.1;
        added = whole.0;
        updates = whole.1;
      }

  -- a batch was drawn
  module _ {workers : ℕ} (x : ℕ) (now : HasPlace batches old (Some x) place) (are : AreBatchesOf pairs workers batches) where
    drawn_is : place.view.drawn ≡ old.told.drawn.items ++ x ∷ []
    drawn_is = ap (λ (s : BatchSeatData). s.view.drawn) now.draws.1 ∙ ap (λ (l : List ℕ). l ++ x ∷ []) (sym was.tells.drawn)

    pub batch_there : x < batches_of (length pairs)
    batch_there = omega (arith, now.draws.0, ap (λ (p : BatchPlan). p.count) was.tells.seat.ours.plan, are.count)

    pub draw_fits : length old.told.drawn.items < vec_capacity old.told.drawn
    draw_fits = omega (
      arith,
      now.law.lawful.few,
      ap length drawn_is,
      length-append old.told.drawn.items (x ∷ []),
      ap (λ (p : BatchPlan). p.count) now.ours.plan,
      was.room,
    )

    both : drawn_pairs pairs (old.told.drawn.items ++ x ∷ []) ≡ drawn_pairs pairs old.told.drawn.items ++ batch_of pairs x
    both =
        flat_map-append (batch_of pairs) old.told.drawn.items (x ∷ [])
        ∙ ap (λ (l : Flows). drawn_pairs pairs old.told.drawn.items ++ l) (append-nil (batch_of pairs x))

    pub pairs_fit : length (drawn_pairs pairs old.told.drawn.items) + length (batch_of pairs x) ≤ length pairs
    pairs_fit =
        let once : AtMostOnce (batches_of (length pairs)) (old.told.drawn.items ++ x ∷ []) = subst (λ (z : ℕ × List ℕ). AtMostOnce z.0 z.1)
        (λ i. ((ap (λ (p : BatchPlan). p.count) now.ours.plan ∙ are.count) i, drawn_is i)) now.law.lawful.once in
        omega (
          arith,
          few_drawn pairs (old.told.drawn.items ++ x ∷ []) once,
          ap length both,
          length-append (drawn_pairs pairs old.told.drawn.items) (batch_of pairs x),
        )

    -- and its pairs were added, or some of them until one was Full
    pub went_on : (on : Bool) (drawn : Vec ℕ Global) (seat : SeatData) → drawn.items ≡ old.told.drawn.items ++ x ∷ []
        → vec_capacity drawn ≡ vec_capacity old.told.drawn → HasAddedFirst shared (drawn_pairs pairs old.told.drawn.items) (batch_of pairs x) (not on) seat
        → HasDrawn shared batches pairs on old (record { seat = seat; told = record { batches = place; drawn = drawn; full = not on } })
    went_on true drawn seat pushed room first =
        let whole : take (first.count + 0) (batch_of pairs x) ≡ batch_of pairs x =
        take_all (first.count + 0) (batch_of pairs x) (omega (arith, first.all refl)) in (
          record {
            tells = record {
              seat = record { ours = now.ours; law = now.law; one = ap length now.numbers ∙ was.tells.seat.one };
              drawn = pushed ∙ sym drawn_is;
            };
            room = omega (arith, was.room, room);
            not_full = refl;
            adding = subst (λ (l : Flows). IsAdding shared l false seat)
                (ap (λ (l : Flows). drawn_pairs pairs old.told.drawn.items ++ l) whole ∙ (sym both ∙ ap (drawn_pairs pairs) (sym pushed))) first.adding;
          },
          omega (arith, ap length pushed, length-append old.told.drawn.items (x ∷ [])),
        )
    went_on false drawn seat pushed room first =
        let front = drawn_pairs pairs old.told.drawn.items in
        let all = front ++ batch_of pairs x in
        let same : all ≡ drawn_pairs pairs drawn.items = sym both ∙ ap (drawn_pairs pairs) (sym pushed) in
        let within : first.count + 1 ≤ length (batch_of pairs x) = first.within in
        let after : length front + (first.count + 1) ≡ length front + first.count + 1 = omega arith in
        let tried : front ++ take (first.count + 1) (batch_of pairs x) ≡ take (length front + first.count + 1) all =
        sym (take-append-add front (batch_of pairs x) (first.count + 1)) ∙ ap (λ n. take n all) after in
        let whole = subst (λ (l : Flows). HasUpdated l seat true) same
        (has_updated all true (length front + first.count) (omega (arith, within, length-append front (batch_of pairs x)))
        (subst (λ (l : Flows). IsAdding shared l true seat) tried first.adding)
        (λ e. let h : true ≡ false = e in absurd cc)) in
        record {
          done = is_done first.adding;
          one = first.adding.one;
          tells = record {
            seat = record { ours = now.ours; law = now.law; one = ap length now.numbers ∙ was.tells.seat.one };
            drawn = pushed ∙ sym drawn_is;
          };
          ended = λ e. let h : true ≡ false = e in absurd cc;
          added = whole.0;
          updates = whole.1;
        }

-- what holds at each place of a list
pub all_each : {X : Type 0} (P : X → Type 0) (xs : List X) → ((i : ℕ) (d : X) → i < length xs → P (slice_index_or xs i d)) → All P xs
all_each P [] each = All-from_recursion P [] tt
all_each P (x ∷ later) each = All-from_get_or P (x ∷ later) x (λ i l. each i x l)
