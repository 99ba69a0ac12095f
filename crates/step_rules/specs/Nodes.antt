-- The nodes that a seat has.
use Rattle.std.specs.Prelude.{◌≡◌, ℕ, ◌<◌, true, List, length}
use mathlib.Core.Option.{some}
use lib.ListN.{get_elem?}
use Rattle.step_rules.specs.Layout.{nodes}
use Rattle.step_rules.specs.World.{Class, Own, Retired, Once, has, nodes_of}
use Rattle.step_rules.specs.declared.layout.TheConstants.{NODE_WIDTH}
use Rattle.step_rules.specs.declared.plan.Plan.{Plan}
use Rattle.step_rules.specs.declared.view.Held.{Held}

-- a node that there is, with all its words
pub record IsNode (p : Plan) (h : Held) : Type 0 where
  pub there : h.node < nodes p
  pub wide : length h.words ≡ NODE_WIDTH

-- where this is the class of each node and these its words, the seat s has these nodes for its own, each with its words, and has retired those
pub record SeatNodes (p : Plan) (class : ℕ → Class) (node : ℕ → List ℕ) (s : ℕ) (own : List Held) (gone : List ℕ) : Type 0 where
  pub there : (i : ℕ) (h : Held) → get_elem? own i ≡ some h → IsNode p h
  pub mine : (i : ℕ) (h : Held) → get_elem? own i ≡ some h → class h.node ≡ Own s
  pub words : (i : ℕ) (h : Held) → get_elem? own i ≡ some h → node h.node ≡ h.words
  pub once : Once (nodes_of own)
  pub retired_once : Once gone
  pub retired : (n : ℕ) → has gone n ≡ true → class n ≡ Retired s
  pub retired_there : (n : ℕ) → has gone n ≡ true → n < nodes p
