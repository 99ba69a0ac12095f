-- The shared object as the rule sees it: functions, with something blank past every end.
use Rattle.std.specs.Prelude.{◌≡◌, ℕ, ◌-◌, ◌==◌, ◌||◌, Bool, false, suc, List, [], ◌∷◌, ⊤, slice_index, if◌then◌else◌}
use Rattle.seat_history.specs.declared.entry.Entry.{Entry}
pub use Rattle.step_rules.specs.declared.layout.TheConstants.{END}
use Rattle.step_rules.specs.declared.layout.TheConstants.{NODE_WIDTH}
use Rattle.step_rules.specs.declared.view.Held.{Held}

-- whose a node is: a seat's own, free or held; on the chain of a cell; or retired by a seat
pub data Class : Type 0 where
  Own : ℕ → Class
  Live : ℕ → Class
  Retired : ℕ → Class

-- what no word says; seats are told apart by their places among the views
pub record Unwritten : Type 0 where
  pub class : ℕ → Class
  -- the nodes of each cell, the one that the backup names first
  pub chain : ℕ → List Held
  -- the seat that holds each caller's number
  pub holder : ℕ → ℕ
  -- for each claim word, a node's number and 1 where a claim on the node stands in it, else 0
  pub guard : ℕ → ℕ
  -- the history
  pub log : List Entry
  -- for each cell, the place of the seat that has locked its version and 1, else 0
  pub locker : ℕ → ℕ
  -- for each cell and version, how long the history was after the change whose words the release of that version copied
  pub source : ℕ → ℕ → ℕ

-- what the words and the unwritten say together
pub record World : Type 0 where
  pub class : ℕ → Class
  -- the words of each node
  pub node : ℕ → List ℕ
  -- the backup word of each cell
  pub backup : ℕ → ℕ
  pub chain : ℕ → List Held
  pub holder : ℕ → ℕ
  pub log : List Entry
  -- the claim words, by their places
  pub word : ℕ → ℕ
  pub guard : ℕ → ℕ
  -- the version and the inline words of each cell
  pub version : ℕ → ℕ
  pub inline : ℕ → List ℕ
  pub locker : ℕ → ℕ
  pub source : ℕ → ℕ → ℕ

-- n stands in the list
abbrev pub has : List ℕ → ℕ → Bool
has [] n = false
has (x ∷ xs) n = (x == n) || has xs n

-- no number stands twice in the list
abbrev pub Once : List ℕ → Type 0
Once [] = ⊤
Once (x ∷ xs) = (has xs x ≡ false) × Once xs

-- the nodes alone
abbrev pub nodes_of : List Held → List ℕ
nodes_of [] = []
nodes_of (h ∷ r) = h.node ∷ nodes_of r

-- the link to the first node of a chain that goes on to e
abbrev pub link : List Held → ℕ → ℕ
link [] e = e
link (h ∷ r) e = suc h.node

-- a node's next word as a link, END being none
abbrev pub next_of : List ℕ → ℕ
next_of ws = if slice_index ws (NODE_WIDTH - 1) == END then 0 else slice_index ws (NODE_WIDTH - 1)

-- nodes of one class, each with its words, linked one to the other and then to e
abbrev pub Chained : World → Class → List Held → ℕ → Type 0
Chained W c [] e = ⊤
Chained W c (h ∷ r) e = (W.class h.node ≡ c) × (W.node h.node ≡ h.words) × (next_of h.words ≡ link r e) × Chained W c r e

-- nodes linked one to the other and then to e
abbrev pub Linked : List Held → ℕ → Type 0
Linked [] e = ⊤
Linked (h ∷ r) e = (next_of h.words ≡ link r e) × Linked r e

abbrev pub IsOwn : Class → Type 0
IsOwn (Own s) = ⊤
IsOwn (Live k) = ⊥
IsOwn (Retired s) = ⊥
