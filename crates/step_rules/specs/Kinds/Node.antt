-- Loads of nodes.
use Rattle.std.specs.Prelude.{◌≡◌, ℕ, slice_index}
use mathlib.Core.Option.{some}
use lib.ListN.{get_elem?}
use Rattle.step_rules.specs.Claims.{On}
use Rattle.step_rules.specs.declared.view.Claim.{Claim}
use Rattle.step_rules.specs.declared.view.Held.{Held}
use Rattle.step_rules.specs.declared.view.View.{View}

-- the word j of the node n is x, as the seat knows of its own nodes and of those that its claims stand on
pub record Reads (n j x : ℕ) (v : View) : Type 0 where
  pub own : (i : ℕ) (h : Held) → get_elem? v.own i ≡ some h → h.node ≡ n → x ≡ slice_index h.words j
  pub claim : (c : ℕ) (y : Claim) → get_elem? v.claims c ≡ some y → On y n → x ≡ slice_index y.image j
