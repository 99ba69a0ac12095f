-- What each call leaves of a thread's run, with what it carries.
use Rattle.std.proofs.Common.{◌≡◌, ℕ, ◌+◌, ◌%◌, ◌^◌, Bool, false, List, [], ◌∷◌, ◌++◌, cond, refl, sym, ap, subst, ◌∙◌}
use Rattle.speed_runs.proofs.Coming.{come_on, come_unmade}
use Rattle.speed_runs.specs.Carrying.{HasCarried, IsNextWith, Leaves, carried}
use Rattle.speed_runs.specs.Runs.{Adds}
use Rattle.step_rules.specs.SeatData.{ObjectData, SeatData}
use Rattle.step_rules.specs.Views.{number}
use Rattle.step_rules.specs.declared.view.Stand.{Stand}

pub carried_push : {X : Type 0} (after : X → Stand → X) (x : X) (xs : List Stand) (s : Stand) → carried after x (xs ++ s ∷ []) ≡ after (carried after x xs) s
carried_push after x [] s = refl
carried_push after x (one ∷ later) s = carried_push after (after x one) later s

module _ {X : Type 0} (after : X → Stand → X) (first : X) (T : ℕ → ℕ → X → Stand → Type 0) {is_made : Stand → Bool} {shared : ObjectData} {i : ℕ} {v w : SeatData} {x y : X}
    {done : ℕ} {made : Bool} (c : HasCarried after first T is_made shared i v x done) (a : Adds (Leaves after (T (number v.view) i) x y) is_made shared made v w) where
  turn : Leaves after (T (number v.view) i) x y a.stand → IsNextWith after first T (number v.view) v.view.stands a.stand
  turn (is, left) = subst (λ (z : ℕ × X). T (number v.view) z.0 z.1 a.stand) (λ j. (sym c.come.count j, c.carried_is j)) is

  carried_on : y ≡ carried after first w.view.stands
  carried_on = a.turn.1 ∙ (ap (λ z. after z a.stand) c.carried_is ∙ (sym (carried_push after first v.view.stands a.stand) ∙ ap (carried after first) (sym a.more)))

  -- the next call
  pub carry_on : HasCarried after first T is_made shared (i + 1) w y ((done + cond made 1 0) % 2 ^ 64)
  carry_on = record { come = come_on made c.come a turn; carried_is = carried_on }

-- a call that wasn't made isn't counted
pub carry_unmade : {X : Type 0} (after : X → Stand → X) (first : X) (T : ℕ → ℕ → X → Stand → Type 0) {is_made : Stand → Bool} {shared : ObjectData} {i : ℕ} {v w : SeatData} {x y : X}
    {done : ℕ} (c : HasCarried after first T is_made shared i v x done) → Adds (Leaves after (T (number v.view) i) x y) is_made shared false v w
    → HasCarried after first T is_made shared (i + 1) w y done
carry_unmade after first T c a = record { come = come_unmade c.come a (turn after first T c a); carried_is = carried_on after first T c a }
