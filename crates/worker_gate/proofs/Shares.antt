-- The start, a split and a join keep the rule.
use Rattle.std.proofs.Common.{◌≡◌, ℕ, ◌-◌, ◌<◌, List, [], ◌∷◌, length, min, set, take, drop, zero, suc, sym}
use Rattle.std.proofs.Common.{refl, ap, ◌∙◌, subst, arith, Bool, true, false, ◌||◌, ⊎_elim, length-append, length-take, length-drop, true≢false}
use mathlib.Core.Option.{some, some-injective}
use lib.ListN.{get_elem?}
use Rattle.atomic_table.specs.Table.{Joins, Splits, opening}
use Rattle.atomic_table.proofs.Lists.{at_set, set_else}
use Rattle.worker_gate.specs.Numbers.{times}
use Rattle.worker_gate.specs.Rule.{Holds, IsBatchPlan, SeatHolds, one_if}
use Rattle.worker_gate.specs.Seats.{IsLawful}
use Rattle.worker_gate.specs.Views.{joined_view, left_view, right_view, spent_view, starting}
use Rattle.worker_gate.specs.declared.view.BatchPlan.{BatchPlan}
use Rattle.worker_gate.specs.declared.view.BatchView.{BatchView}
use Rattle.worker_gate.proofs.Keeps.{lawful_in}
use Rattle.worker_gate.proofs.Numbers.{below_none, length_all_below, times_all_below, times_append, times_parts}
use Rattle.worker_gate.proofs.Totals.{at_end, total_push, total_set}

pub opens : (p : BatchPlan) → IsBatchPlan p → Holds p (opening (0 ∷ []) [] (starting p))
opens p plan = record {
  plan = plan;
  cursor = 0;
  words = refl;
  drawn = λ n. sym (below_none (min 0 p.count) n (omega arith));
  past = omega arith;
  numbers = λ n. omega (arith, times_all_below n p.seats);
  held = omega (arith, length_all_below p.seats);
  each = one;
}
  where
    one : (id : ℕ) (v : BatchView) → get_elem? (starting p ∷ []) id ≡ some v → SeatHolds p 0 v
    one zero v e = subst (SeatHolds p 0) (some-injective (starting p) v e) record {
      plan = λ _. refl;
      late = omega arith;
      idle = λ _. refl;
      found = omega arith;
      ended = λ z. absurd (true≢false (sym z));
      fresh = λ _. (refl, refl, refl, refl);
    }
    one (suc id) v e = cc

pub starts_lawful : (p : BatchPlan) → IsBatchPlan p → IsLawful (starting p)
starts_lawful p plan = lawful_in p (opening (0 ∷ []) [] (starting p)) (opens p plan) 0 (starting p) refl (omega (arith, length_all_below p.seats, plan.seats.0))

pub splits : (p : BatchPlan) (id : ℕ) (v : BatchView) → v.fresh ≡ true → 1 < length v.numbers → Splits (Holds p) id v (left_view v) (right_view v)
splits p id v fresh more s r at =
    let n : ℕ = length v.numbers - 1 in
    let k : SeatHolds p r.cursor v = r.each id v at in
    let f = k.fresh fresh in
    let quiet : one_if v.pending ≡ 0 = ap one_if f.2 in
    let late = f.1 in
    let ll : length (take n v.numbers) ≡ n = omega (arith, length-take n v.numbers) in
    let lr : length (drop n v.numbers) ≡ 1 = omega (arith, length-drop n v.numbers) in
    let w : BatchView = left_view v in
    let u : BatchView = right_view v in
    let left : SeatHolds p r.cursor w = record { plan = λ _. k.plan (omega arith); late = omega arith; idle = λ _. f.0; found = k.found; ended = k.ended; fresh = k.fresh } in
    let right : SeatHolds p r.cursor u = record { plan = λ _. k.plan (omega arith); late = omega arith; idle = λ _. f.0; found = k.found; ended = k.ended; fresh = k.fresh } in record {
      plan = r.plan;
      cursor = r.cursor;
      words = r.words;
      drawn = λ x. omega (arith, total_push (λ y. times x y.drawn) (set s.views id w) u, total_set (λ y. times x y.drawn) s.views id v w at, r.drawn x, ap (times x) f.0);
      past = omega (arith, total_push (λ y. y.late) (set s.views id w) u, total_set (λ y. y.late) s.views id v w at, r.past);
      numbers = λ x. omega (arith, total_push (λ y. times x y.numbers) (set s.views id w) u, total_set (λ y. times x y.numbers) s.views id v w at, r.numbers x, times_parts x n v.numbers);
      held = omega (arith, total_push (λ y. length y.numbers) (set s.views id w) u, total_set (λ y. length y.numbers) s.views id v w at, r.held);
      each = λ j x e. ⊎_elim (λ t. ⊎_elim (λ y. subst (SeatHolds p r.cursor) y.1 left) (λ y. r.each j x y.1) (at_set s.views id j w x t)) (λ t. subst (SeatHolds p r.cursor) t right)
          (at_end (set s.views id w) u x j e);
    }

or_left : (a b : Bool) (P : Type 0) → (a ≡ true → P) → (b ≡ true → P) → (a || b) ≡ true → P
or_left true b P f g e = f refl
or_left false b P f g e = g e

pub joins : (p : BatchPlan) (id : ℕ) (v : BatchView) (other : ℕ) (w : BatchView) → v.pending ≡ false → w.pending ≡ false → 0 < length v.numbers
    → Joins (Holds p) id v other w (joined_view v w) spent_view
joins p id v other w quiet quiet_too some_number s r at apart at' =
    let b : BatchView = joined_view v w in
    let views : List BatchView = set s.views id b in
    let k : SeatHolds p r.cursor v = r.each id v at in
    let m : SeatHolds p r.cursor w = r.each other w (sym (set_else s.views id other b apart) ∙ at') in
    let long = length-append v.numbers w.numbers in
    let none_pending : one_if v.pending ≡ 0 = ap one_if quiet in
    let both : SeatHolds p r.cursor b = record {
      plan = λ _. k.plan some_number;
      late = omega (arith, k.late, m.late);
      idle = λ z. absurd (omega arith);
      found = k.found;
      ended = or_left v.ended w.ended _ k.ended m.ended;
      fresh = λ z. absurd (true≢false (sym z));
    } in
    let spent : SeatHolds p r.cursor spent_view = record {
      plan = λ z. absurd (omega arith);
      late = omega arith;
      idle = λ _. refl;
      found = omega arith;
      ended = λ z. absurd (true≢false (sym z));
      fresh = λ z. absurd (true≢false (sym z));
    } in record {
      plan = r.plan;
      cursor = r.cursor;
      words = r.words;
      drawn = λ n. omega (arith, total_set (λ x. times n x.drawn) views other w spent_view at', total_set (λ x. times n x.drawn) s.views id v b at, r.drawn n, times_append n v.drawn w.drawn);
      past = omega (arith, total_set (λ x. x.late) views other w spent_view at', total_set (λ x. x.late) s.views id v b at, r.past);
      numbers = λ n. omega (
        arith,
        total_set (λ x. times n x.numbers) views other w spent_view at',
        total_set
            (λ x. times n x.numbers) s.views id v b at,
        r.numbers n,
        times_append n v.numbers w.numbers,
      );
      held = omega (arith, total_set (λ x. length x.numbers) views other w spent_view at', total_set (λ x. length x.numbers) s.views id v b at, r.held);
      each = λ j x e. ⊎_elim (λ y. subst (SeatHolds p r.cursor) y.1 spent) (λ y. ⊎_elim (λ z. subst (SeatHolds p r.cursor) z.1 both) (λ z. r.each j x z.1) (at_set s.views id j b x y.1))
          (at_set views other j spent_view x e);
    }
