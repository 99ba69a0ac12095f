-- What a seat knows of the cell that it looked at last.
use Rattle.std.specs.Prelude.{◌≡◌, ◌/◌, ℕ, ◌<◌, ◌≤◌, List, Option, Some, length, drop}
use Rattle.seat_history.specs.declared.entry.Entry.{Entry}
use Rattle.step_rules.specs.History.{NoneOn}
use Rattle.step_rules.specs.Layout.{cells, nodes}
use Rattle.step_rules.specs.declared.plan.Plan.{Plan}
use Rattle.step_rules.specs.declared.view.Look.{Look}

-- of the look alone
pub record IsLook (p : Plan) (seen : List Entry) (l : Look) : Type 0 where
  pub cell : l.cell < cells p
  pub there : l.word / 2 < nodes p
  pub at : l.at ≤ length seen

-- the cell's node is that of the word found, unless the history has an entry on the cell since
pub record LookHolds (p : Plan) (backup : ℕ → ℕ) (log : List Entry) (l : Look) : Type 0 where
  pub same : NoneOn p l.cell (drop l.at log) → backup l.cell / 2 ≡ l.word / 2
  -- its mark is at most cleared
  pub falls : NoneOn p l.cell (drop l.at log) → backup l.cell ≤ l.word

-- what is known of the last look, where these are the backup words and the history
pub record SeatLook (p : Plan) (backup : ℕ → ℕ) (log seen : List Entry) (look : Option Look) : Type 0 where
  pub is : (l : Look) → look ≡ Some l → IsLook p seen l
  pub holds : (l : Look) → look ≡ Some l → LookHolds p backup log l
