-- What the rule of the table comes to for versions, inline words and changes in flight.
use Rattle.std.specs.Prelude.{◌≡◌, ℕ, ◌+◌, ◌/◌, ◌<◌, ◌≤◌, List, drop, take}
use mathlib.Core.Option.{some}
use lib.ListN.{get_elem?}
use Rattle.seat_history.specs.declared.entry.Entry.{Entry}
use Rattle.step_rules.specs.Claims.{OWN, On}
use Rattle.step_rules.specs.History.{NoneOn, cell_of}
use Rattle.step_rules.specs.Layout.{cells}
use Rattle.step_rules.specs.Readers.{SeatReader}
use Rattle.step_rules.specs.Rule.{HoldsAt, backup_word, inline_words, node_words, version_word}
use Rattle.step_rules.specs.Versions.{FoundVersion, IsEven, IsOdd}
use Rattle.step_rules.specs.Views.{claim_of}
use Rattle.step_rules.specs.World.{Unwritten}
use Rattle.step_rules.specs.Writers.{Flies}
use Rattle.step_rules.specs.declared.plan.Plan.{Plan}
use Rattle.step_rules.specs.declared.view.Stage.TheVariants.{Locked, Released, Waiting}
use Rattle.step_rules.specs.declared.view.View.{View}

-- the seat has locked the cell k
pub record IsLocker (k : ℕ) (v : View) : Type 0 where
  pub locked : v.writer.stage ≡ Locked
  pub cell : v.writer.cell ≡ k

-- of a cell
pub record VersionAgrees (p : Plan) (ws : List ℕ) (vs : List View) (k : ℕ) : Type 0 where
  -- where the version is even and the backup unmarked, the inline words are the node's
  pub copied : IsEven (version_word p ws k) → IsEven (backup_word p ws k) → inline_words p ws k ≡ node_words p ws (backup_word p ws k / 2)
  -- where the version is odd, the backup is marked, and one seat has locked the cell
  pub marked : IsOdd (version_word p ws k) → IsOdd (backup_word p ws k)
  pub locker : IsOdd (version_word p ws k) → (s : ℕ) × (v : View) × (get_elem? vs s ≡ some v) × IsLocker k v
  pub one : (s t : ℕ) (v u : View) → get_elem? vs s ≡ some v → get_elem? vs t ≡ some u → IsLocker k v → IsLocker k u → s ≡ t

-- of a seat, where the history is this
pub record FlightAgrees (p : Plan) (ws : List ℕ) (log : List Entry) (v : View) : Type 0 where
  pub found : (k u : ℕ) → FoundVersion k u v.trail → u ≤ version_word p ws k
  pub claimed : Flies v.writer → On (claim_of OWN v) v.writer.node
  -- the change is an entry of the history on its cell; where the backup names its node, it is the last one there
  pub change : Flies v.writer → (e : Entry) × (get_elem? log v.writer.change ≡ some e) × (cell_of p e.call ≡ v.writer.cell)
  pub last : Flies v.writer → backup_word p ws v.writer.cell / 2 ≡ v.writer.node → NoneOn p v.writer.cell (drop (v.writer.change + 1) log)
  -- while a version that was found before the exchange is still there, the backup is marked
  pub waiting : v.writer.stage ≡ Waiting → (u : ℕ) → FoundVersion v.writer.cell u v.writer.before → version_word p ws v.writer.cell ≡ u → IsOdd (backup_word p ws v.writer.cell)
  -- after the lock the version is one more, and as many inline words as were stored are the node's
  pub locked : v.writer.stage ≡ Locked
      → (version_word p ws v.writer.cell ≡ v.writer.version + 1) × (take v.writer.stores (inline_words p ws v.writer.cell) ≡ take v.writer.stores (node_words p ws v.writer.node))
  -- after the release it is at least two more; where the backup still names the node it is that, and the inline words are the node's
  pub released : v.writer.stage ≡ Released → v.writer.version + 2 ≤ version_word p ws v.writer.cell
  pub done : v.writer.stage ≡ Released → backup_word p ws v.writer.cell / 2 ≡ v.writer.node
      → (version_word p ws v.writer.cell ≡ v.writer.version + 2) × (inline_words p ws v.writer.cell ≡ node_words p ws v.writer.node)

-- of two seats: a change before which a version was found that the other one released is the later one
abbrev pub IsLater : View → View → Type 0
IsLater v u = v.writer.stage ≡ Released → Flies u.writer → u.writer.cell ≡ v.writer.cell → FoundVersion v.writer.cell (v.writer.version + 2) u.writer.before → v.writer.change < u.writer.change

abbrev pub VersionsAgree : Type 0
VersionsAgree = (p : Plan) (ws : List ℕ) (vs : List View) (U : Unwritten) → HoldsAt p ws vs U → (k : ℕ) → k < cells p → VersionAgrees p ws vs k

abbrev pub FlightsAgree : Type 0
FlightsAgree = (p : Plan) (ws : List ℕ) (vs : List View) (U : Unwritten) → HoldsAt p ws vs U → (s : ℕ) (v : View) → get_elem? vs s ≡ some v → FlightAgrees p ws U.log v

abbrev pub LaterFound : Type 0
LaterFound = (p : Plan) (ws : List ℕ) (vs : List View) (U : Unwritten) → HoldsAt p ws vs U → (s t : ℕ) (v u : View) → get_elem? vs s ≡ some v → get_elem? vs t ≡ some u → IsLater v u

-- a fast read under an even version: while the version is there, the words read are the inline words; where they are all and the backup was
-- then unmarked, they are those of the first node that the cell had there
abbrev pub ReadsAgree : Type 0
ReadsAgree = (p : Plan) (ws : List ℕ) (vs : List View) (U : Unwritten) → HoldsAt p ws vs U → (s : ℕ) (v : View) → get_elem? vs s ≡ some v
    → SeatReader p (version_word p ws) (inline_words p ws) v.seen v.reader
