-- A fast read: the version, the inline words, the backup, and the version again.
use Rattle.std.specs.Prelude.{◌≡◌, ◌≢◌, ℕ, ◌-◌, ◌<◌, ◌≤◌, true, List, [], ◌∷◌, length, slice_index, take}
use Rattle.seat_history.specs.declared.entry.Entry.{Entry}
use Rattle.step_rules.specs.Layout.{cells}
use Rattle.step_rules.specs.Records.{record_in, records_at}
use Rattle.step_rules.specs.Versions.{IsEven}
use Rattle.step_rules.specs.World.{END}
use Rattle.step_rules.specs.declared.layout.TheConstants.{NODE_WIDTH}
use Rattle.step_rules.specs.declared.plan.Plan.{Plan}
use Rattle.step_rules.specs.declared.view.Reader.{Reader}

-- a node's next word, END where there is no record
abbrev pub next_word : List ℕ → ℕ
next_word ws = slice_index ws (NODE_WIDTH - 1)

-- these are the words of the first node of a cell with these records
pub record IsFirst (rs : List (List ℕ)) (ws : List ℕ) : Type 0 where
  pub empty : next_word ws ≡ END → rs ≡ []
  pub first : next_word ws ≢ END → (rest : List (List ℕ)) × (rs ≡ record_in ws ∷ rest)
  pub one : next_word ws ≡ 0 → length rs ≡ 1
  pub more : next_word ws ≢ 0 → next_word ws ≢ END → 1 < length rs

-- of the view alone; with an odd version nothing is read
pub record ReaderSound (p : Plan) (seen : List Entry) (r : Reader) : Type 0 where
  pub cell : IsEven r.version → r.cell < cells p
  pub at : r.at ≤ length seen
  pub long : length r.words ≤ NODE_WIDTH
  pub whole : r.unmarked ≡ true → length r.words ≡ NODE_WIDTH

-- the version is no newer than the cell's; while it is the cell's, the words are the inline words; and where the backup was unmarked after all
-- of them, they are those of the cell's first node then
pub record SeatReader (p : Plan) (version : ℕ → ℕ) (inline : ℕ → List ℕ) (seen : List Entry) (r : Reader) : Type 0 where
  pub sound : ReaderSound p seen r
  pub old : IsEven r.version → r.version ≤ version r.cell
  pub words : IsEven r.version → version r.cell ≡ r.version → take (length r.words) (inline r.cell) ≡ r.words
  pub told : IsEven r.version → r.unmarked ≡ true → version r.cell ≡ r.version → IsFirst (records_at p (take r.at seen) r.cell) r.words
