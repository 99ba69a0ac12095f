-- What is left of an object when no thread shares it any more.
use Rattle.std.specs.Prelude.{◌≡◌, ℕ, ◌+◌, ◌/◌, ◌<◌, ◌*◌, ◌≤◌, true, zero, suc, List, [], ◌∷◌, Option, Some, length, take, drop, max, slice_index}
use mathlib.Core.Option.{some}
use lib.ListN.{get_elem?}
use Rattle.seat_history.specs.Contents.{set_at}
use Rattle.seat_history.specs.History.{state_at}
use Rattle.seat_history.specs.declared.entry.Entry.{Entry}
use Rattle.seat_history.specs.declared.words.TheConstants.{WIDTH}
use Rattle.step_rules.specs.History.{IsHistory}
use Rattle.step_rules.specs.Layout.{backup_at, node_at, nodes, nodes_at, words}
use Rattle.step_rules.specs.Lawful.{Lawful}
use Rattle.step_rules.specs.Line.{InOneLine}
use Rattle.step_rules.specs.Records.{key_in, records_at, records_of}
use Rattle.step_rules.specs.SeatData.{SeatData}
use Rattle.step_rules.specs.World.{Linked, has, link}
use Rattle.step_rules.specs.declared.layout.TheConstants.{NODE_WIDTH}
use Rattle.step_rules.specs.declared.plan.Plan.{Plan}
use Rattle.step_rules.specs.declared.view.Held.{Held}
use Rattle.step_rules.specs.declared.view.Stand.{Stand}

-- a closed object, as contracts see it: its plan, the whole history, all stands, and the free and the retired nodes
pub record ClosedData : Type 0 where
  pub plan : Plan
  pub history : List Entry
  pub stands : List Stand
  pub free : List ℕ
  pub retired : List ℕ

-- how many nodes the chains of the first n buckets have after the history: one for each record, and one for none
abbrev pub bucket_nodes : Plan → List Entry → ℕ → ℕ
bucket_nodes p history zero = 0
bucket_nodes p history (suc n) = bucket_nodes p history n + max 1 (length (records_at p history (p.registers + n)))

-- how many nodes are in cells: one for each register, and the buckets'
abbrev pub live_nodes : Plan → List Entry → ℕ
live_nodes p history = p.registers + bucket_nodes p history p.buckets

-- the chain from this node on stands in the words of so many nodes, which begin at the place `start`
pub record IsChainAt (ws : List ℕ) (start nodes first : ℕ) (chain : List Held) : Type 0 where
  pub head : link chain 0 ≡ first + 1
  pub linked : Linked chain 0
  pub there : (i : ℕ) (h : Held) → get_elem? chain i ≡ some h → h.node < nodes
  pub words : (i : ℕ) (h : Held) → get_elem? chain i ≡ some h → take NODE_WIDTH (drop (start + NODE_WIDTH * h.node) ws) ≡ h.words
  pub short : length chain ≤ nodes

-- the values of numbers, with each record's value under its key's
abbrev pub with_records : (ℕ → Option (List ℕ)) → List (List ℕ) → ℕ → Option (List ℕ)
with_records values [] = values
with_records values (r ∷ rs) = with_records (set_at values (key_in r) (Some (drop 2 r))) rs

-- the words have the chain of the bucket b, with its records after the history
pub record HasBucket (p : Plan) (ws : List ℕ) (history : List Entry) (b : ℕ) : Type 0 where
  pub chain : List Held
  pub at : IsChainAt ws (nodes_at p) (nodes p) (slice_index ws (backup_at p (p.registers + b)) / 2) chain
  pub records : records_of chain ≡ records_at p history (p.registers + b)

-- the words have the cells' records after the history
pub record EndsWith (p : Plan) (ws : List ℕ) (history : List Entry) : Type 0 where
  pub wide : length ws ≡ words p
  pub node : (r : ℕ) → r < p.registers → slice_index ws (backup_at p r) / 2 < nodes p
  pub register : (r j : ℕ) → r < p.registers → j < WIDTH
      → slice_index ws (node_at p (slice_index ws (backup_at p r) / 2) j) ≡ slice_index ((state_at history (length history)).registers r) j
  pub record_wide : (r : ℕ) → length ((state_at history (length history)).registers r) ≡ WIDTH
  pub bucket : (b : ℕ) → b < p.buckets → HasBucket p ws history b

-- a seat that held all numbers was closed with its object
pub record IsClosed (seat : SeatData) (closed : ClosedData) : Type 0 where
  pub plan : closed.plan ≡ seat.view.plan
  pub history : closed.history ≡ seat.view.seen
  pub stands : closed.stands ≡ seat.view.stands
  pub free : closed.free ≡ seat.free
  pub retired : closed.retired ≡ seat.view.retired
  -- every entry is a change that a caller of the plan made, and each caller's are its changing stands
  pub whole : IsHistory closed.plan closed.history
  pub callers : (x : ℕ) → x < closed.plan.seats → has seat.view.numbers x ≡ true
  pub lawful : Lawful closed.plan seat.view.numbers closed.history closed.stands
  pub line : InOneLine closed.plan closed.history closed.stands
  -- no node is lost
  pub counted : length closed.free + live_nodes closed.plan closed.history + length closed.retired ≡ nodes closed.plan
