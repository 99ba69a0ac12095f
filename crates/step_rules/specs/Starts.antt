-- A new object.
use Rattle.std.specs.Prelude.{◌≡◌, ℕ, ◌*◌, ◌^◌, ◌<◌, ◌≤◌, List, [], length, slice_index, true, Result, Ok, Err}
use Rattle.atomic_table.specs.Table.{opening}
use Rattle.seat_history.specs.declared.words.TheConstants.{WIDTH}
use Rattle.step_rules.specs.History.{NoneOn}
use Rattle.step_rules.specs.Layout.{backup_at, cells, inline_at, node_at, nodes, version_at, words}
use Rattle.step_rules.specs.Rule.{Holds, HoldsAt, backup_word, inline_words, node_words, version_word}
use Rattle.step_rules.specs.SeatData.{ObjectData, SeatData}
use Rattle.step_rules.specs.Untouched.{IsUntouched, first_next}
use Rattle.step_rules.specs.Views.{count_up, starting}
use Rattle.step_rules.specs.World.{Unwritten}
use Rattle.step_rules.specs.declared.opening.Building.{Building}
use Rattle.step_rules.specs.declared.opening.Building.TheVariants.{TooLarge, NoMemory}
use Rattle.step_rules.specs.declared.layout.TheConstants.{CLAIMS}
use Rattle.step_rules.specs.declared.plan.Plan.{Plan}
use Rattle.step_rules.specs.declared.view.View.{View}

-- the words at the start: zeros, but that each cell's backup names the node with the cell's number, unmarked, and a bucket's next words are END
pub record IsStart (p : Plan) (ws : List ℕ) : Type 0 where
  pub wide : length ws ≡ words p
  pub version : (k : ℕ) → k < cells p → slice_index ws (version_at p k) ≡ 0
  pub backup : (k : ℕ) → k < cells p → slice_index ws (backup_at p k) ≡ 2 * k
  pub inline : (k j : ℕ) → k < cells p → j < WIDTH → slice_index ws (inline_at p k j) ≡ 0
  pub inline_next : (k : ℕ) → k < cells p → slice_index ws (inline_at p k WIDTH) ≡ first_next p k
  pub node : (n j : ℕ) → n < nodes p → j < WIDTH → slice_index ws (node_at p n j) ≡ 0
  pub node_next : (n : ℕ) → n < nodes p → slice_index ws (node_at p n WIDTH) ≡ first_next p n
  pub claim : (w : ℕ) → w < CLAIMS * p.seats → slice_index ws w ≡ 0

-- no other words meet the rule, where the first seat is the only one
abbrev pub StartIsPinned : Type 0
StartIsPinned = (p : Plan) (ws : List ℕ) → Holds p (opening ws [] (starting p)) → IsStart p ws

-- and a cell that the history has no entry on keeps its words
abbrev pub UntouchedAgree : Type 0
UntouchedAgree = (p : Plan) (ws : List ℕ) (vs : List View) (U : Unwritten) → HoldsAt p ws vs U → (k : ℕ) → k < cells p → NoneOn p k U.log
    → IsUntouched p k (version_word p ws k) (backup_word p ws k) (inline_words p ws k) (node_words p ws k)

-- the first seat holds all numbers, and all nodes but the cells' are its own and free
pub record IsBuilt (p : Plan) (shared : ObjectData) (made : SeatData) : Type 0 where
  pub plan : shared.plan ≡ p
  pub seat : made ≡ record {
    object = shared.object;
    view = starting p;
    free = count_up (cells p) (p.seats * p.share);
    holding = [];
    noted = [];
    first = true;
    fresh = true;
  }

-- what comes of building: TooLarge exactly where there are too many nodes, want of memory aside
abbrev pub Builds : Plan → Result (ObjectData × SeatData) Building → Type 0
Builds p (Ok made) = (nodes p ≤ 2 ^ 24) × IsBuilt p made.0 made.1
Builds p (Err (TooLarge count)) = (2 ^ 24 < nodes p) × (count ≡ nodes p)
Builds p (Err NoMemory) = nodes p ≤ 2 ^ 24
