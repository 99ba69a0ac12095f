-- An exchange of a backup, as the world sees it.
use Rattle.std.specs.Prelude.{◌≡◌, ◌≢◌, ℕ, ◌+◌, ◌/◌, ◌<◌, true, false, List, ◌++◌, length}
use mathlib.Core.Option.{some}
use lib.ListN.{get_elem?}
use Rattle.seat_history.specs.declared.entry.Entry.{Entry}
use Rattle.step_rules.specs.History.{NoneBy, NoneOn}
use Rattle.step_rules.specs.Nodes.{IsNode}
use Rattle.step_rules.specs.World.{World, Own, Live, Retired, Chained, has, link, nodes_of}
use Rattle.step_rules.specs.declared.plan.Plan.{Plan}
use Rattle.step_rules.specs.declared.view.Held.{Held}

-- the seat a exchanges the backup of the cell k: the nodes `dropped` fall out and become retired, its own nodes `fresh` come in, and `kept`
-- stays; the history grows by `more`, which is the seat's and on the cell, and all claims stay
pub record Exchanges (p : Plan) (a k : ℕ) (dropped kept fresh : List Held) (more : List Entry) (W W' : World) : Type 0 where
  pub log : W'.log ≡ W.log ++ more
  pub by : (x : ℕ) → W.holder x ≢ a → NoneBy x more
  pub here : ¬ NoneOn p k more
  pub there : (j : ℕ) → j ≢ k → NoneOn p j more
  pub holder : (x : ℕ) → W'.holder x ≡ W.holder x
  pub before : W.chain k ≡ dropped ++ kept
  pub after : W'.chain k ≡ fresh ++ kept
  pub some_fresh : 0 < length fresh
  pub head : link fresh 0 ≡ W'.backup k / 2 + 1
  pub mine : Chained W (Own a) fresh (link kept 0)
  pub known : (i : ℕ) (h : Held) → get_elem? fresh i ≡ some h → IsNode p h
  pub others : (j : ℕ) → j ≢ k → (W'.backup j ≡ W.backup j) × (W'.chain j ≡ W.chain j)
  pub into : (m : ℕ) → has (nodes_of fresh) m ≡ true → W'.class m ≡ Live k
  pub out : (m : ℕ) → has (nodes_of dropped) m ≡ true → has (nodes_of fresh) m ≡ false → W'.class m ≡ Retired a
  pub class : (m : ℕ) → has (nodes_of dropped) m ≡ false → has (nodes_of fresh) m ≡ false → W'.class m ≡ W.class m
  pub node : (m : ℕ) → W'.node m ≡ W.node m
  pub word : (w : ℕ) → W'.word w ≡ W.word w
  pub guard : (w : ℕ) → W'.guard w ≡ W.guard w
  -- versions and inline words stay, with what is known of them
  pub version : (j : ℕ) → W'.version j ≡ W.version j
  pub inline : (j : ℕ) → W'.inline j ≡ W.inline j
  pub locker : (j : ℕ) → W'.locker j ≡ W.locker j
  pub source : (j u : ℕ) → W'.source j u ≡ W.source j u
