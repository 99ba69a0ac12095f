-- What copies of a chain's front do and leave.
use Rattle.std.specs.Prelude.{◌≡◌, ◌≢◌, ⊤, ℕ, ◌+◌, ◌<◌, ◌≤◌, true, false, List, [], ◌∷◌, ◌++◌, length}
use Rattle.chain_links.specs.Following.{IsRemoved, IsReplaced}
use Rattle.chain_links.specs.declared.answers.Edit.{Edit}
use Rattle.chain_links.specs.declared.answers.Edit.TheVariants.{Insert, Remove, Replace}
use Rattle.chain_links.specs.declared.answers.Front.{Front}
use Rattle.chain_links.specs.declared.answers.Front.TheVariants.{Ready, Moved}
use Rattle.node_pool.specs.Pool.{load_steps, store_steps}
use Rattle.step_rules.specs.Bags.{IsWithout, times}
use Rattle.step_rules.specs.Claims.{BACK, On}
use Rattle.step_rules.specs.Fronts.{IsFront, front_of}
use Rattle.step_rules.specs.Records.{Edit as Change, pair, put}
use Rattle.step_rules.specs.SeatData.{IsSeat, SeatData}
use Rattle.step_rules.specs.Steps.{stepped}
use Rattle.step_rules.specs.Views.{claim_of, claimed_records, counted, words_in}
use Rattle.step_rules.specs.World.{has, nodes_of}
use Rattle.step_rules.specs.declared.view.Counted.{Counted}
use Rattle.step_rules.specs.declared.view.Held.{Held}
use Rattle.step_rules.specs.declared.view.View.{View}
use Rattle.step_rules.specs.declared.view.Kind.TheVariants.{NodeStore}

-- as many nodes are free as the edit needs: one for an insert into an empty bucket, and two beside other records; for a replace those of all
-- records up to its place, and for a remove those of the records before its place, but one at least
abbrev pub HasFree : Edit → SeatData → Type 0
HasFree (Insert key val) seat = (claimed_records seat.view ≡ [] → 1 ≤ length seat.free) × (claimed_records seat.view ≢ [] → 2 ≤ length seat.free)
HasFree (Replace at val) seat = at + 1 ≤ length seat.free
HasFree (Remove at) seat = (1 ≤ length seat.free) × (at ≤ length seat.free)

-- the claimed chain has a record at the place that the edit names
abbrev pub IsPlace : Edit → View → Type 0
IsPlace (Insert key val) v = ⊤
IsPlace (Replace at val) v = at < length (claimed_records v)
IsPlace (Remove at) v = at < length (claimed_records v)

-- a node was taken by one store, and then filled with these words
abbrev pub put_steps : ℕ → List ℕ → ℕ → List Counted
put_steps node words seen = counted (NodeStore node 0 0) 0 seen ∷ store_steps node 0 words seen

-- each node of a front, the last first
abbrev pub front_steps : List Held → ℕ → List Counted
front_steps [] seen = []
front_steps (h ∷ r) seen = front_steps r seen ++ put_steps h.node h.words seen

-- a free node is held now, and has these words; nothing else has changed
pub record IsPut (node : ℕ) (words : List ℕ) (old new : SeatData) : Type 0 where
  pub was_free : has old.free node ≡ true
  pub free : IsWithout node old.free new.free
  pub holding : new.holding ≡ old.holding ++ node ∷ []
  pub words_there : words_in new.view.own node ≡ words
  pub others : (m : ℕ) → m ≢ node → words_in new.view.own m ≡ words_in old.view.own m
  pub nodes : nodes_of new.view.own ≡ nodes_of old.view.own
  pub same : new ≡ record (stepped (record old.view {
    own = new.view.own;
    trail = old.view.trail ++ put_steps node words (length old.view.seen);
  }) old) { free = new.free; holding = new.holding }

-- a copy of these words was put in a node, and then the record in another one that goes on to it
pub record PutsBeside (node : ℕ) (rec first : List ℕ) (old new : SeatData) : Type 0 where
  pub copy : ℕ
  pub mid : SeatData
  pub copies : IsPut copy first old mid
  pub middle : IsSeat mid
  pub puts : IsPut node (rec ++ (copy + 1) ∷ []) mid new

-- the claimed first node was read, and the seat holds the front of the change, whose nodes were free; nothing else has changed
pub record HoldsCopy (node : ℕ) (change : Change) (before now : SeatData) : Type 0 where
  pub first : ℕ
  pub stands : On (claim_of BACK before.view) first
  pub front : IsFront node change now.view
  pub held : (m : ℕ) → has now.holding m ≡ has (nodes_of (front_of node change now.view)) m
  pub free : (m : ℕ) → times m now.free + times m now.holding ≡ times m before.free
  pub others : (m : ℕ) → has now.holding m ≡ false → words_in now.view.own m ≡ words_in before.view.own m
  pub nodes : nodes_of now.view.own ≡ nodes_of before.view.own
  pub same : now ≡ record (stepped (record before.view {
    own = now.view.own;
    trail = before.view.trail ++ (load_steps first 0 (claim_of BACK before.view).image (length before.view.seen)
        ++ front_steps (front_of node change now.view) (length before.view.seen));
  }) before) { free = now.free; holding = now.holding }

-- what comes of an edit; an insert puts the pair before all other records, and is never moved
abbrev pub IsCopied : ℕ → Edit → Front → SeatData → SeatData → Type 0
IsCopied cell (Insert key val) (Ready node) before now = HoldsCopy node (put (pair key val)) before now
IsCopied cell (Insert key val) Moved before now = ⊥
IsCopied cell (Replace at val) front before now = IsReplaced cell at val front before now
IsCopied cell (Remove at) front before now = IsRemoved cell at front before now
