-- The rule of the table.
use Rattle.std.specs.Prelude.{◌≡◌, ℕ, ◌+◌, ◌*◌, ◌<◌, ◌≤◌, List, [], length, take, drop, nat_lt, slice_index, if◌then◌else◌}
use Rattle.std.specs.List.{sum_by}
use mathlib.Core.Option.{some}
use lib.ListN.{get_elem?}
use Rattle.atomic_table.specs.Table.{State}
use Rattle.seat_history.specs.declared.call.Call.{Call}
use Rattle.step_rules.specs.Cells.{CellsAgree}
use Rattle.step_rules.specs.Claims.{Guards}
use Rattle.step_rules.specs.History.{IsHistory}
use Rattle.step_rules.specs.Layout.{IsPlan, backup_at, cells, nodes_at, version_at, words}
use Rattle.step_rules.specs.Seats.{SeatOk}
use Rattle.step_rules.specs.Versions.{VersionedAt}
use Rattle.step_rules.specs.World.{Unwritten, World}
use Rattle.step_rules.specs.declared.layout.TheConstants.{CLAIMS, NODE_WIDTH}
use Rattle.step_rules.specs.declared.plan.Plan.{Plan}
use Rattle.step_rules.specs.declared.view.View.{View}

-- the words of the node n
abbrev pub node_words : Plan → List ℕ → ℕ → List ℕ
node_words p ws n = take NODE_WIDTH (drop (nodes_at p + NODE_WIDTH * n) ws)

-- the backup word of the cell k
abbrev pub backup_word : Plan → List ℕ → ℕ → ℕ
backup_word p ws k = if nat_lt k (cells p) then slice_index ws (backup_at p k) else 0

-- the version of the cell k
abbrev pub version_word : Plan → List ℕ → ℕ → ℕ
version_word p ws k = if nat_lt k (cells p) then slice_index ws (version_at p k) else 0

-- its inline words
abbrev pub inline_words : Plan → List ℕ → ℕ → List ℕ
inline_words p ws k = if nat_lt k (cells p) then take NODE_WIDTH (drop (version_at p k + 2) ws) else []

-- the claim word at the place w
abbrev pub claim_word : Plan → List ℕ → ℕ → ℕ
claim_word p ws w = if nat_lt w (CLAIMS * p.seats) then slice_index ws w else 0

-- the words, with what no word says
abbrev pub world_of : Plan → List ℕ → Unwritten → World
world_of p ws U = record {
  class = U.class;
  node = node_words p ws;
  backup = backup_word p ws;
  chain = U.chain;
  holder = U.holder;
  log = U.log;
  word = claim_word p ws;
  guard = U.guard;
  version = version_word p ws;
  inline = inline_words p ws;
  locker = U.locker;
  source = U.source;
}

-- the rule over the words, the views, and what no word says
pub record HoldsAt (p : Plan) (ws : List ℕ) (vs : List View) (U : Unwritten) : Type 0 where
  pub plan : IsPlan p
  pub wide : length ws ≡ words p
  pub history : IsHistory p U.log
  pub versions : (k : ℕ) → k < cells p → VersionedAt p (world_of p ws U) k
  pub cells : CellsAgree p (world_of p ws U)
  pub guards : Guards p (claim_word p ws) U.guard
  pub seats : (s : ℕ) (v : View) → get_elem? vs s ≡ some v → SeatOk p (world_of p ws U) s v
  -- a locker is a seat
  pub lockers : (k s : ℕ) → U.locker k ≡ s + 1 → s < length vs
  -- what happened, and the changes that the seats have left, are no more than the plan allows
  pub budget : length U.log + sum_by (λ (v : View). v.changes) vs ≤ p.seats * p.changes

-- the rule of the table
pub record Holds (p : Plan) (s : State Call View) : Type 0 where
  pub unwritten : Unwritten
  pub at : HoldsAt p s.words s.views unwritten
