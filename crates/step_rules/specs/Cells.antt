-- The cells and the contents after the history.
use Rattle.std.specs.Prelude.{◌≡◌, ℕ, ◌+◌, ◌/◌, ◌<◌, List, [], ◌∷◌, ◌++◌}
use mathlib.Core.Option.{some}
use lib.ListN.{get_elem?}
use Rattle.step_rules.specs.Layout.{cells}
use Rattle.step_rules.specs.Nodes.{IsNode}
use Rattle.step_rules.specs.Records.{IsCounted, records_at, records_of}
use Rattle.step_rules.specs.World.{World, Live, Chained, link}
use Rattle.step_rules.specs.declared.plan.Plan.{Plan}
use Rattle.step_rules.specs.declared.view.Held.{Held}

-- a register's chain is one node, with its record and the next word 0
abbrev pub register_chain : ℕ → List ℕ → List Held
register_chain n rec = record { node = n; words = rec ++ 0 ∷ [] } ∷ []

-- the chain of the cell k has the cell's records after the history, a node each; without records it is one node whose next word is END
pub record IsCell (p : Plan) (W : World) (k : ℕ) : Type 0 where
  pub head : link (W.chain k) 0 ≡ W.backup k / 2 + 1
  pub chained : Chained W (Live k) (W.chain k) 0
  pub node : (i : ℕ) (h : Held) → get_elem? (W.chain k) i ≡ some h → IsNode p h
  pub records : records_of (W.chain k) ≡ records_at p W.log k
  pub counted : IsCounted (W.chain k)

-- all cells agree with the history; past the last there is no chain
pub record CellsAgree (p : Plan) (W : World) : Type 0 where
  pub cell : (k : ℕ) → k < cells p → IsCell p W k
