-- What a load of a claim word by a scan leaves of a seat's own numbers and lists.
use Rattle.std.proofs.Common.{◌≡◌, ℕ, ◌+◌, ◌*◌, ◌≤◌, suc, Bool, true, false, not, ◌&&◌, List, [], ◌++◌, Vec, Global, vec_capacity, length, take, filter, cond, eqb}
use Rattle.std.proofs.Common.{refl, sym, ap, ◌∙◌, subst}
use Rattle.std.proofs.Common.{arith, ⊎_elim}
use Rattle.std.proofs.lemmas.List.{length-append, take_all}
use Rattle.atomic_table.specs.declared.shared.Seat.{Seat}
use Rattle.seat_history.specs.declared.call.Call.{Call}
use Rattle.step_rules.proofs.Numbers.Bags.{times-append}
use Rattle.step_rules.proofs.Ties.Parting.{frees_first, noted_length, noted_same}
use Rattle.step_rules.proofs.Numbers.Sets.{has-append, length-nodes_of, nodes_of-append}
use Rattle.step_rules.proofs.Ties.Tied.{IsWhole, data_of, held_to, own_free_still, tied_step}
use Rattle.step_rules.specs.Bags.{times}
use Rattle.step_rules.specs.Claims.{OWN}
use Rattle.step_rules.specs.Kinds.Claiming.{Frees}
use Rattle.step_rules.specs.SeatData.{IsScan, SeatData, claim_words, holds_record}
use Rattle.step_rules.specs.Sound.{Sound}
use Rattle.step_rules.specs.Steps.{IsScanned}
use Rattle.step_rules.specs.Views.{is_freed, noted, number, scan_of, scanned_view}
use Rattle.step_rules.specs.World.{has, nodes_of}
use Rattle.step_rules.specs.declared.layout.TheConstants.{CLAIMS}
use Rattle.step_rules.specs.declared.plan.Plan.{Plan}
use Rattle.step_rules.specs.declared.seat.Seat.TheInside.{Inside}
use Rattle.step_rules.specs.declared.view.Held.{Held}
use Rattle.step_rules.specs.declared.view.Scan.{Scan}
use Rattle.step_rules.specs.declared.view.View.{View}

-- a filter by the same test
filter_by : (f g : ℕ → Bool) (xs : List ℕ) → ((n : ℕ) → f n ≡ g n) → filter f xs ≡ filter g xs
filter_by f g xs same = λ i. filter (λ n. same n i) xs

-- the nodes that are given back are those that the view's scan frees
frees_same : (v : View) (next old : ℕ) (found : List ℕ) (d : ℕ) (retired : List ℕ) → IsScan v next old found d → retired ≡ v.retired → (n : ℕ)
    → frees_first old retired found n ≡ is_freed v.scan n
frees_same v next old found d retired s is n = ap (λ l. has l n && not (has found n)) (ap (take old) is ∙ sym s.old_is) ∙ ap (λ b. has v.scan.old n && not b) (s.found_is n)

-- the seat's own scan after the load of the word w, which found x
pub record Notes (s : Inside) (w x old : ℕ) (found : Vec ℕ Global) : Type 0 where
  pub end : old ≡ cond (eqb w 0) (length s.retired.items) s.scan_old
  pub named : (n : ℕ) → has found.items n ≡ has (noted x (cond (eqb w 0) [] s.scan_found.items)) n
  pub long : length found.items ≡ length (noted x (cond (eqb w 0) [] s.scan_found.items))

module _ (s : Inside) (whole : IsWhole s) (w x old : ℕ) (found : Vec ℕ Global) (notes : Notes s w x old found) where
  abbrev v : View
  v = s.inner.me.0

  -- the scan that the load goes on with
  begun : Bool → Scan
  begun b = cond b (record { next = 0; old = v.retired; found = [] }) v.scan

  split : (b : Bool) → ((begun b).old ≡ take (cond b (length s.retired.items) s.scan_old) v.retired) × (cond b (length s.retired.items) s.scan_old ≤ length v.retired)
      × ((n : ℕ) → has (cond b [] s.scan_found.items) n ≡ has (begun b).found n) × (length (cond b [] s.scan_found.items) ≡ length (begun b).found)
  unfolding begun
  split true = (sym (take_all (length s.retired.items) v.retired (omega (arith, ap (length {A = ℕ}) whole.4))), omega (arith, ap (length {A = ℕ}) whole.4), λ n. refl, refl)
  split false = (whole.5.old_is, whole.5.old_within, whole.5.found_is, whole.5.long)

  scan_then : IsScan (scanned_view w x v) (w + 1) old found.items (vec_capacity s.scan_found)
  unfolding begun
  scan_then = let q = split (eqb w 0) in let before = cond (eqb w 0) [] s.scan_found.items in record {
    next_is = refl;
    old_is = q.0 ∙ ap (λ k. take k v.retired) (sym notes.end);
    old_within = subst (λ k. k ≤ length v.retired) (sym notes.end) q.1;
    found_is = λ n. notes.named n ∙ noted_same x before (scan_of w v).found q.2 n;
    long = notes.long ∙ noted_length x before (scan_of w v).found q.3;
    room = whole.5.room;
  }

  -- what the last load gives back
  pub freed_then : filter (frees_first old s.retired.items found.items) s.retired.items ≡ filter (is_freed (scanned_view w x v).scan) v.retired
  freed_then = filter_by _ _ s.retired.items (frees_same (scanned_view w x v) (w + 1) old found.items _ s.retired.items scan_then whole.4) ∙ ap (filter (is_freed (scanned_view w x v).scan)) whole.4

  kept_then : filter (λ n. not (frees_first old s.retired.items found.items n)) s.retired.items ≡ filter (λ n. not (is_freed (scanned_view w x v).scan n)) v.retired
  kept_then = filter_by _ _ s.retired.items (λ n. ap not (frees_same (scanned_view w x v) (w + 1) old found.items _ s.retired.items scan_then whole.4 n))
      ∙ ap (filter (λ n. not (is_freed (scanned_view w x v).scan n))) whole.4

  module _ (inner : Seat Call View) (slots : inner.me.1 ≡ s.inner.me.1) (sound : Sound inner.me.0) where
    -- a load that isn't the last
    pub whole_noted : inner.me.0 ≡ scanned_view w x v → vec_capacity found ≡ vec_capacity s.scan_found
        → IsWhole (record s { inner = inner; fresh = false; scan_next = w + 1; scan_old = old; scan_found = found })
    whole_noted after room =
        let h = held_to s whole inner slots sound (scanned_view w x v) s.holds_record s.claims after refl whole.0.holds whole.0.claims whole.0.own_free in
        (h.0, h.1, h.2, h.3, h.4, subst (λ (z : View × ℕ). IsScan z.0 (w + 1) old found.items z.1) (λ i. (sym after i, sym room i)) scan_then)

    module _ (frees : Frees w x v inner.me.0) (free retired none_found : Vec ℕ Global) (more : free.items ≡ s.free.items ++ filter (frees_first old s.retired.items found.items) s.retired.items)
        (room_free : vec_capacity free ≡ vec_capacity s.free) (room_retired : vec_capacity retired ≡ vec_capacity s.retired) where
      back : free.items ≡ s.free.items ++ nodes_of frees.freed
      back = more ∙ ap (λ l. s.free.items ++ l) (freed_then ∙ sym frees.nodes)

      own : inner.me.0.own ≡ v.own ++ frees.freed
      own = ap (λ (u : View). u.own) frees.after

      lists : (n : ℕ) → times n free.items + times n s.holding.items ≡ times n (nodes_of inner.me.0.own)
      lists n = let l = whole.0.lists n in omega (
        arith,
        ap (times n) back,
        times-append n s.free.items (nodes_of frees.freed),
        ap (λ y. times n (nodes_of y)) own,
        ap (times n) (nodes_of-append v.own frees.freed),
        times-append n (nodes_of v.own) (nodes_of frees.freed),
      )

      pub whole_freed : retired.items ≡ filter (λ n. not (frees_first old s.retired.items found.items n)) s.retired.items → none_found.items ≡ []
          → vec_capacity none_found ≡ vec_capacity s.scan_found
          → IsWhole (record s { inner = inner; fresh = false; free = free; retired = retired; scan_next = 0; scan_old = 0; scan_found = none_found })
      whole_freed fewer none room = let t = whole.0 in let after = frees.after in let room_then = scan_then.room in (
        tied_step s inner free s.holding retired s.holds_record s.claims t (record {
          slots = slots;
          sound = sound;
          plan = ap (λ (u : View). u.plan) after;
          numbers = ap (λ (u : View). u.numbers) after;
          own_free = own_free_still free.items v inner.me.0
              (λ n h y at. ⊎_elim (λ q. t.own_free n q y at) (λ q. frees.unclaimed OWN n y at q) (has-append s.free.items (nodes_of frees.freed) n (subst (λ l. has l n ≡ true) back h)))
              (ap (λ (u : View). u.claims) after);
          lists = lists;
          long = let l = t.long in
              omega (arith, ap (length {A = ℕ}) back, length-append s.free.items (nodes_of frees.freed), length-nodes_of frees.freed, ap (length {A = Held}) own, length-append v.own frees.freed);
          room_free = room_free;
          room_holding = refl;
          room_retired = room_retired;
        }) (t.holds ∙ ap holds_record (sym after)) (t.claims ∙ ap claim_words (sym after)),
        whole.1 ∙ ap number (sym after),
        whole.2 ∙ ap (λ (u : View). u.changes) (sym after),
        whole.3 ∙ ap (λ (u : View). u.removes) (sym after),
        fewer ∙ (kept_then ∙ ap (λ (u : View). u.retired) (sym after)),
        subst (λ (z : View × List ℕ × ℕ). IsScan z.0 0 0 z.1 z.2) (λ i. (sym after i, sym none i, sym room i))
            (record { next_is = refl; old_is = refl; old_within = omega arith; found_is = λ n. refl; long = refl; room = room_then }),
      )

-- the word is the last one, of the seat's plan as of the object's
pub last_word : (p q : Plan) (w : ℕ) → p ≡ q → w + 1 ≡ CLAIMS * p.seats → suc w ≡ CLAIMS * q.seats
last_word p q w same is = subst (λ (z : Plan). suc w ≡ CLAIMS * z.seats) same (omega arith)

-- the seat as the last load leaves it
pub scanned_last : (s : Inside) (inner : Seat Call View) (free : List ℕ) (w x : ℕ) (old : SeatData) → data_of s ≡ old → inner.table_id ≡ s.inner.table_id
    → suc w ≡ CLAIMS * s.inner.me.0.plan.seats → Frees w x s.inner.me.0 inner.me.0
    → free ≡ s.free.items ++ filter (is_freed (scanned_view w x s.inner.me.0).scan) s.inner.me.0.retired
    → IsScanned w x old (record (data_of s) { object = inner.table_id; view = inner.me.0; free = free; fresh = false })
scanned_last s inner free w x old is same last frees freed =
    subst (λ (d : SeatData). IsScanned w x d (record (data_of s) { object = inner.table_id; view = inner.me.0; free = free; fresh = false })) is (record {
      on = λ lt. absurd (omega arith);
      frees = λ _. frees;
      freed = λ _. freed;
      same = λ i. record (data_of s) { object = same i; view = inner.me.0; free = free; fresh = false };
    })
