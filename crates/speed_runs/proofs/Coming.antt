-- What each call leaves of a thread's run.
use Rattle.std.proofs.Common.{◌≡◌, ℕ, ◌+◌, ◌%◌, ◌^◌, ◌<◌, Bool, true, false, List, [], ◌∷◌, ◌++◌, cond, count_by, length, sym, ap, subst, ◌∙◌, arith, slice_index, length-append}
use Rattle.std.specs.Prelude.{if◌then◌else◌}
use Rattle.std.proofs.lemmas.List.{append-nil, append_assoc}
use Rattle.std.proofs.lemmas.List.Sums.{count_by-le-length}
use Rattle.big_atomic.proofs.Adding.{counts_push, none_after}
use Rattle.big_atomic.proofs.Counting.{count_push}
use Rattle.big_atomic.specs.Seats.{IsUnused}
use Rattle.speed_runs.specs.Runs.{Adds, AreTurns, HasCome, is_changing}
use Rattle.step_rules.specs.SeatData.{ObjectData, SeatData}
use Rattle.step_rules.specs.Views.{number}
use Rattle.step_rules.specs.declared.view.Stand.{Stand}

pub turns_push : (T : List Stand → Stand → Type 0) (before xs : List Stand) (s : Stand) → AreTurns T before xs → T (before ++ xs) s → AreTurns T before (xs ++ s ∷ [])
turns_push T before [] s all one = (subst (λ l. T l s) (append-nil before) one, tt)
turns_push T before (x ∷ later) s all one = (
  all.0,
  turns_push T (before ++ x ∷ []) later s all.1 (subst (λ l. T l s) (sym (append_assoc before (x ∷ []) later)) one),
)

spends : (b : Bool) (v w c d : ℕ) → w + (if b then 1 else 0) ≡ v → d ≡ c + cond b 1 0 → w + d ≡ v + c
spends true v w c d e s = omega arith
spends false v w c d e s = omega arith

-- a seat that was in no call yet
pub begun : {T : ℕ → List Stand → Stand → Type 0} {is_made : Stand → Bool} {shared : ObjectData} {seat : SeatData} → IsUnused shared seat → HasCome T is_made shared 0 seat 0
begun {T} {is_made} {shared} {seat} u = record {
  ready = u.ready;
  alone = u.one;
  count = ap length u.stands;
  turns = subst (AreTurns (T (number seat.view)) []) (sym u.stands) tt;
  done_is = ap (λ (l : List Stand). count_by is_made l % 2 ^ 64) (sym u.stands);
  changes = let e : count_by is_changing seat.view.stands ≡ 0 = ap (count_by is_changing) u.stands in omega (arith, e, u.changes);
  none_held = u.none_held;
}

module _ {T : ℕ → List Stand → Stand → Type 0} {P : Stand → Type 0} {is_made : Stand → Bool} {shared : ObjectData} {i : ℕ} {v w : SeatData} {done : ℕ} (made : Bool)
    (c : HasCome T is_made shared i v done) (a : Adds P is_made shared made v w) (turn : P a.stand → T (number v.view) v.view.stands a.stand) where
  turns_on : AreTurns (T (number w.view)) [] w.view.stands
  turns_on =
      let who : number v.view ≡ number w.view = ap (λ l. slice_index l 0) (sym a.stays.numbers) in
      subst (λ (z : ℕ × List Stand). AreTurns (T z.0) [] z.1) (λ j. (who j, sym a.more j)) (turns_push (T (number v.view)) [] v.view.stands a.stand c.turns (turn a.turn))

  changes_on : w.view.changes + count_by is_changing w.view.stands ≡ shared.plan.changes
  changes_on =
      let counts : count_by is_changing w.view.stands ≡ count_by is_changing v.view.stands + cond a.stand.changes 1 0 =
      ap (count_by is_changing) a.more ∙ count_push is_changing v.view.stands a.stand in
      spends a.stand.changes v.view.changes w.view.changes (count_by is_changing v.view.stands) (count_by is_changing w.view.stands) a.changes counts ∙ c.changes

  -- the next call
  pub come_on : HasCome T is_made shared (i + 1) w ((done + cond made 1 0) % 2 ^ 64)
  come_on = record {
    ready = a.ready;
    alone = ap length a.stays.numbers ∙ c.alone;
    count = let e : length w.view.stands ≡ length v.view.stands + 1 = ap length a.more ∙ length-append v.view.stands (a.stand ∷ []) in omega (arith, e, c.count);
    turns = turns_on;
    done_is = counts_push is_made v.view.stands w.view.stands a.stand made c.done_is a.more a.made_is;
    changes = changes_on;
    none_held = none_after a.hold c.none_held;
  }

-- a call that wasn't made isn't counted
pub come_unmade : {T : ℕ → List Stand → Stand → Type 0} {P : Stand → Type 0} {is_made : Stand → Bool} {shared : ObjectData} {i : ℕ} {v w : SeatData} {done : ℕ}
    (c : HasCome T is_made shared i v done) (a : Adds P is_made shared false v w) → (P a.stand → T (number v.view) v.view.stands a.stand) → HasCome T is_made shared (i + 1) w done
come_unmade {T} {is_made = is_made} {shared = shared} {i = i} {w = w} c a turn =
    subst (HasCome T is_made shared (i + 1) w) (omega (arith, c.done_is)) (come_on false c a turn)

-- while calls are to come, a change is left
pub change_left : {T : ℕ → List Stand → Stand → Type 0} {is_made : Stand → Bool} {shared : ObjectData} {i : ℕ} {v : SeatData} {done : ℕ} → HasCome T is_made shared i v done
    → i < shared.plan.changes → 0 < v.view.changes
change_left {v = v} c more = omega (arith, c.changes, c.count, count_by-le-length is_changing v.view.stands)
