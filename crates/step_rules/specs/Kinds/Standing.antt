-- Stands that are no changes.
use Rattle.std.specs.Prelude.{◌≡◌, ℕ, false, Bool, ◌==◌, List, [], ◌∷◌, Option, Some, None, if◌then◌else◌}
use mathlib.Core.Option.{some}
use lib.ListN.{get_elem?}
use Rattle.seat_history.specs.declared.call.Call.{Call}
use Rattle.seat_history.specs.declared.reply.Reply.{Reply}
use Rattle.step_rules.specs.Lawful.{Below, IsRight}
use Rattle.step_rules.specs.Views.{reading}
use Rattle.step_rules.specs.declared.view.Counted.{Counted}
use Rattle.step_rules.specs.declared.view.Kind.{Kind}
use Rattle.step_rules.specs.declared.view.Kind.TheVariants.{BackupLoad, BackupExchange, Recheck}
use Rattle.step_rules.specs.declared.view.Stand.{Stand}
use Rattle.step_rules.specs.declared.view.View.{View}

-- the stand of a call at the place q is right, it is no change, and it comes after its caller's stands
pub record MayStand (q : ℕ) (call : Call) (reply : Reply) (v : View) : Type 0 where
  pub right : IsRight v.plan v.seen v.stands (reading q call reply v)
  pub above : (i : ℕ) (s : Stand) → get_elem? v.stands i ≡ some s → Below s (reading q call reply v)

-- a step of this kind looks at the cell k
abbrev pub is_look : ℕ → Kind → Bool
is_look k (BackupLoad cell) = cell == k
is_look k (Recheck claim cell seen) = cell == k
is_look k (BackupExchange cell seen node) = cell == k
is_look k _ = false

-- how much of the history was seen after the first of these steps that looks at the cell k
abbrev pub first_look : ℕ → List Counted → Option ℕ
first_look k [] = None
first_look k (step ∷ r) = if is_look k step.kind then Some step.seen else first_look k r
