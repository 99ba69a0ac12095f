-- The steps on the cursor keep the rule.
use Rattle.std.proofs.Common.{◌≡◌, ℕ, ◌+◌, ◌%◌, ◌^◌, ◌≤◌, ◌<◌, List, [], ◌∷◌, length, min, set, zero, suc, sym, refl, ap, subst, arith, true, false, slice_index, slice_set, ⊎_elim, true≢false}
use Rattle.std.proofs.lemmas.Bool.{cases_lt}
use mathlib.Core.Option.{none, some}
use lib.ListN.{get_elem?}
use Rattle.atomic_table.specs.Table.{Act, Allows, Me, State, Valid, carried_after, keeps, step, stepped}
use Rattle.atomic_table.proofs.Lists.{at_set}
use Rattle.worker_gate.specs.Numbers.{AtMostOnce, once_below, times}
use Rattle.worker_gate.specs.Plays.{drew, looked, settled}
use Rattle.worker_gate.specs.Rule.{Holds, IsBatchPlan, SeatHolds, one_if, total}
use Rattle.worker_gate.specs.Seats.{IsLawful}
use Rattle.worker_gate.specs.Views.{drawn_view, ended_view, late_view, pending_view}
use Rattle.worker_gate.specs.declared.view.BatchPlan.{BatchPlan}
use Rattle.worker_gate.specs.declared.view.BatchView.{BatchView}
use Rattle.worker_gate.proofs.Numbers.{below_mono, below_more, few, times_append}
use Rattle.worker_gate.proofs.Totals.{total_le, total_member, total_only, total_set}

found_is : (p : BatchPlan) (s : State ℕ BatchView) (r : Holds p s) → slice_index s.words 0 ≡ r.cursor
found_is p s r = ap (λ l. slice_index l 0) r.words

set_at : (l : List BatchView) (i : ℕ) (a b : BatchView) → get_elem? l i ≡ some a → get_elem? (set l i b) i ≡ some b
set_at [] i a b e = cc
set_at (x ∷ xs) zero a b e = refl
set_at (x ∷ xs) (suc i) a b e = set_at xs i a b e

-- a view of the table with a number is lawful
module _ (p : BatchPlan) (s : State ℕ BatchView) (r : Holds p s) where
  all_late : total (λ u. u.late) s.views ≤ p.seats
  all_late = omega (arith, total_le (λ u. u.late) (λ u. length u.numbers) s.views (λ j u e. omega (arith, (r.each j u e).late)), r.held)

  -- a cursor that moves by one doesn't come to its end
  pub next_word : (r.cursor + 1) % 2 ^ 64 ≡ r.cursor + 1
  next_word = let b = all_late in let c = r.past in let l = r.plan.count in let m = r.plan.seats.1 in omega arith

  pub lawful_in : (id : ℕ) (v : BatchView) → get_elem? s.views id ≡ some v → 0 < length v.numbers → IsLawful v
  lawful_in id v at some_number =
      let own = r.each id v at in
      let e = own.plan some_number in
      let once : AtMostOnce v.plan.count v.drawn =
      λ n. omega (arith, total_member (λ u. times n u.drawn) s.views id v at, r.drawn n, below_mono (min r.cursor p.count) p.count n (omega arith), ap (λ q. once_below q.count n) e) in record {
        plan = subst IsBatchPlan (sym e) r.plan;
        some_number = some_number;
        numbers = λ n. omega (arith, total_member (λ u. times n u.numbers) s.views id v at, r.numbers n, ap (λ q. once_below q.seats n) e);
        once = once;
        few = few v.plan.count v.drawn once;
        whole = λ l z n. let far = own.ended z in let past : min r.cursor p.count ≡ p.count = omega arith in
            let only : total (λ u. times n u.drawn) s.views ≡ times n v.drawn =
            total_only (λ u. times n u.drawn) (λ u. length u.numbers) s.views id v at (omega (arith, r.held, l, ap (λ q. q.seats) e)) (λ j u k y. ap (times n) ((r.each j u k).idle y)) in
            omega (arith, only, r.drawn n, ap (λ c. once_below c n) past, ap (λ q. once_below q.count n) e);
        found = omega (arith, own.found, r.past, all_late, ap (λ q. q.count) e, ap (λ q. q.seats) e);
        fresh = λ z. let f = own.fresh z in (f.0, f.3);
      }

-- what one step makes of its seat, where the cursor goes from old to new
record Moves (p : BatchPlan) (old new : ℕ) (v w : BatchView) : Type 0 where
  pub drawn : (n : ℕ) → times n w.drawn + once_below (min old p.count) n ≡ times n v.drawn + once_below (min new p.count) n
  pub past : new + (min old p.count + v.late) ≡ old + (min new p.count + w.late)
  pub numbers : w.numbers ≡ v.numbers
  pub up : old ≤ new
  pub seat : SeatHolds p new w

kept_next : (p : BatchPlan) (s : State ℕ BatchView) (r : Holds p s) (id : ℕ) (v w : BatchView) (n : ℕ) (c : List (ℕ × ℕ)) → get_elem? s.views id ≡ some v → Moves p r.cursor n v w
    → Holds p (stepped s 0 n id c w keeps)
kept_next p s r id v w n c at m = record {
  plan = r.plan;
  cursor = n;
  words = ap (λ l. slice_set l 0 n) r.words;
  drawn = λ x. omega (arith, total_set (λ u. times x u.drawn) s.views id v w at, m.drawn x, r.drawn x);
  past = omega (arith, total_set (λ u. u.late) s.views id v w at, m.past, r.past);
  numbers = λ x. omega (arith, total_set (λ u. times x u.numbers) s.views id v w at, ap (times x) m.numbers, r.numbers x);
  held = omega (arith, total_set (λ u. length u.numbers) s.views id v w at, ap length m.numbers, r.held);
  each = λ j u e. ⊎_elim (λ t. subst (SeatHolds p n) t.1 m.seat) (λ t. let k = r.each j u t.1 in record {
    plan = k.plan;
    late = k.late;
    idle = k.idle;
    found = omega (arith, k.found, m.up);
    ended = λ z. omega (arith, k.ended z, m.up);
    fresh = k.fresh;
  }) (at_set s.views id j w u e);
}

-- a step that leaves the cursor, the draws and the numbers
stays : (p : BatchPlan) (s : State ℕ BatchView) (r : Holds p s) (id : ℕ) (v w : BatchView) (c : List (ℕ × ℕ)) → get_elem? s.views id ≡ some v → w.drawn ≡ v.drawn → w.late ≡ v.late
    → w.numbers ≡ v.numbers → SeatHolds p r.cursor w → Holds p (stepped s 0 r.cursor id c w keeps)
stays p s r id v w c at d l n seat = kept_next p s r id v w r.cursor c at record {
  drawn = λ x. omega (arith, ap (times x) d);
  past = omega (arith, l);
  numbers = n;
  up = omega arith;
  seat = seat;
}

-- what a step at its state gives: the view after it, the act, and what is told
abbrev Gives : BatchPlan → State ℕ BatchView → ℕ → Me ℕ BatchView → ℕ → ℕ → (ℕ → Me ℕ BatchView → Type 0) → Type 0
Gives p s id me x n then = (w : BatchView) × (a : Act ℕ) × Valid s.homes me.1 a × Holds p (stepped s 0 n id me.1 w a) × then x (w, carried_after me.1 a)

-- the view w after a step on the cursor, lawful since it is a view of the table after it
lawful_after : (p : BatchPlan) (s : State ℕ BatchView) (id : ℕ) (v w : BatchView) (n : ℕ) (c : List (ℕ × ℕ)) → get_elem? s.views id ≡ some v → 0 < length w.numbers
    → Holds p (stepped s 0 n id c w keeps) → IsLawful w
lawful_after p s id v w n c at some_number r = lawful_in p (stepped s 0 n id c w keeps) r id w (set_at s.views id v w at) some_number

module _ (p : BatchPlan) (slots id : ℕ) (me : Me ℕ BatchView) (same : me.0.plan ≡ p) (some_number : 0 < length me.0.numbers) where
  looks_at : me.0.pending ≡ false → (s : State ℕ BatchView) (r : Holds p s) → get_elem? s.views id ≡ some me.0 → Gives p s id me r.cursor r.cursor (looked (step slots 0 0 0 none) me)
  looks_at quiet s r at = ⊎_elim below past (cases_lt r.cursor p.count)
    where
      v : BatchView
      v = me.0

      k : SeatHolds p r.cursor v
      k = r.each id v at

      count : v.plan.count ≡ p.count
      count = ap (λ q. q.count) same

      none_pending : one_if v.pending ≡ 0
      none_pending = ap one_if quiet

      below : r.cursor < p.count → Gives p s id me r.cursor r.cursor (looked (step slots 0 0 0 none) me)
      below l =
          let w : BatchView = pending_view r.cursor v in
          let kept : Holds p (stepped s 0 r.cursor id me.1 w keeps) = stays p s r id v w me.1 at refl refl refl record {
            plan = k.plan;
            late = omega (arith, total_member (λ u. u.late) s.views id v at, r.past, some_number);
            idle = k.idle;
            found = omega arith;
            ended = k.ended;
            fresh = λ z. absurd (true≢false (sym z));
          } in (w, keeps, tt, kept, (refl, (λ _. refl), (λ z. absurd (omega (arith, count))), lawful_after p s id v w r.cursor me.1 at some_number kept))

      past : p.count ≤ r.cursor → Gives p s id me r.cursor r.cursor (looked (step slots 0 0 0 none) me)
      past g =
          let w : BatchView = ended_view r.cursor v in
          let kept : Holds p (stepped s 0 r.cursor id me.1 w keeps) = stays p s r id v w me.1 at refl refl refl record {
            plan = k.plan;
            late = k.late;
            idle = k.idle;
            found = omega arith;
            ended = λ _. g;
            fresh = λ z. absurd (true≢false (sym z));
          } in (w, keeps, tt, kept, (refl, (λ z. absurd (omega (arith, count))), (λ _. refl), lawful_after p s id v w r.cursor me.1 at some_number kept))

  pub looks : me.0.pending ≡ false → Allows (Holds p) slots id me 0 (λ n. n) (looked (step slots 0 0 0 none) me)
  looks quiet s r homes at fits = subst (λ x. Gives p s id me x x (looked (step slots 0 0 0 none) me)) (sym (found_is p s r)) (looks_at quiet s r at)

  draws_at : me.0.pending ≡ true → (s : State ℕ BatchView) (r : Holds p s) → get_elem? s.views id ≡ some me.0
      → Gives p s id me r.cursor (r.cursor + 1) (drew (step slots 0 1 0 none) me)
  draws_at pending s r at = ⊎_elim below past (cases_lt r.cursor p.count)
    where
      v : BatchView
      v = me.0

      k : SeatHolds p r.cursor v
      k = r.each id v at

      count : v.plan.count ≡ p.count
      count = ap (λ q. q.count) same

      one_pending : one_if v.pending ≡ 1
      one_pending = ap one_if pending

      below : r.cursor < p.count → Gives p s id me r.cursor (r.cursor + 1) (drew (step slots 0 1 0 none) me)
      below l =
          let w : BatchView = drawn_view r.cursor v in
          let low : min r.cursor p.count ≡ r.cursor = omega arith in
          let high : min (r.cursor + 1) p.count ≡ suc r.cursor = omega arith in
          let kept : Holds p (stepped s 0 (r.cursor + 1) id me.1 w keeps) = kept_next p s r id v w (r.cursor + 1) me.1 at record {
            drawn = λ n. omega (arith, times_append n v.drawn (r.cursor ∷ []), ap (λ c. once_below c n) low, ap (λ c. once_below c n) high, below_more r.cursor n);
            past = omega arith;
            numbers = refl;
            up = omega arith;
            seat = record {
              plan = k.plan;
              late = omega (arith, k.late, one_pending);
              idle = λ z. absurd (omega (arith, some_number, z));
              found = omega arith;
              ended = λ z. omega (arith, k.ended z);
              fresh = λ z. absurd (true≢false (sym z));
            };
          } in (w, keeps, tt, kept, (refl, (λ _. refl), (λ z. absurd (omega (arith, count))), lawful_after p s id v w (r.cursor + 1) me.1 at some_number kept))

      past : p.count ≤ r.cursor → Gives p s id me r.cursor (r.cursor + 1) (drew (step slots 0 1 0 none) me)
      past g =
          let w : BatchView = late_view r.cursor v in
          let low : min r.cursor p.count ≡ p.count = omega arith in
          let high : min (r.cursor + 1) p.count ≡ p.count = omega arith in
          let kept : Holds p (stepped s 0 (r.cursor + 1) id me.1 w keeps) = kept_next p s r id v w (r.cursor + 1) me.1 at record {
            drawn = λ n. omega (arith, ap (λ c. once_below c n) low, ap (λ c. once_below c n) high);
            past = omega arith;
            numbers = refl;
            up = omega arith;
            seat = record {
              plan = k.plan;
              late = omega (arith, k.late, one_pending);
              idle = k.idle;
              found = omega arith;
              ended = λ _. omega arith;
              fresh = λ z. absurd (true≢false (sym z));
            };
          } in (w, keeps, tt, kept, (refl, (λ z. absurd (omega (arith, count))), (λ _. refl), lawful_after p s id v w (r.cursor + 1) me.1 at some_number kept))

  pub draws : me.0.pending ≡ true → Allows (Holds p) slots id me 0 (λ n. (n + 1) % 2 ^ 64) (drew (step slots 0 1 0 none) me)
  draws pending s r homes at fits = subst (λ x. Gives p s id me x ((x + 1) % 2 ^ 64) (drew (step slots 0 1 0 none) me)) (sym (found_is p s r))
      (subst (λ n. Gives p s id me r.cursor n (drew (step slots 0 1 0 none) me)) (sym (next_word p s r)) (draws_at pending s r at))

  pub settles : Allows (Holds p) slots id me 0 (λ n. n) (settled (step slots 0 0 0 none) me)
  settles s r homes at fits =
      let kept : Holds p (stepped s 0 r.cursor id me.1 me.0 keeps) = stays p s r id me.0 me.0 me.1 at refl refl refl (r.each id me.0 at) in
      subst (λ x. Gives p s id me x x (settled (step slots 0 0 0 none) me)) (sym (found_is p s r)) (me.0, keeps, tt, kept, (refl, lawful_in p s r id me.0 at some_number))
