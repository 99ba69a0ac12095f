-- The counted steps of a seat.
use Rattle.std.specs.Prelude.{◌≡◌, ℕ, ◌≤◌, List, length}
use mathlib.Core.Option.{some}
use lib.ListN.{get_elem?}
use Rattle.seat_history.specs.declared.entry.Entry.{Entry}
use Rattle.step_rules.specs.declared.view.Counted.{Counted}

-- the last stand was added after so many of the steps, and none saw more than was seen
pub record IsTrail (since : ℕ) (steps : List Counted) (seen : List Entry) : Type 0 where
  pub within : since ≤ length steps
  pub each : (i : ℕ) (c : Counted) → get_elem? steps i ≡ some c → c.seen ≤ length seen
