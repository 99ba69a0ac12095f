-- Hazard claims (Michael 2004): a node that a claim stands on keeps its words and is given to nobody.
use Rattle.std.specs.Prelude.{◌≡◌, ◌≢◌, ℕ, ◌+◌, ◌*◌, ◌/◌, ◌<◌, ◌≤◌, ◌⊎◌, true, List, ◌∷◌, length, take, drop, if◌then◌else◌}
use mathlib.Core.Option.{some}
use lib.ListN.{get_elem?}
use Rattle.seat_history.specs.declared.entry.Entry.{Entry}
use Rattle.step_rules.specs.History.{NoneOn}
use Rattle.step_rules.specs.Layout.{cells, claim_at, nodes}
use Rattle.step_rules.specs.Nodes.{IsNode}
use Rattle.step_rules.specs.Records.{IsCounted, records_at, records_of}
use Rattle.step_rules.specs.World.{Linked, Once, World, Own, has, nodes_of}
use Rattle.step_rules.specs.declared.layout.TheConstants.{CLAIMS, NODE_WIDTH}
use Rattle.step_rules.specs.declared.plan.Plan.{Plan}
use Rattle.step_rules.specs.declared.view.Claim.{Claim}
use Rattle.step_rules.specs.declared.view.Held.{Held}

-- the claim words of a number, in their order
abbrev pub BACK : ℕ
BACK = 0

abbrev pub WALK : ℕ
WALK = 1

abbrev pub OWN : ℕ
OWN = 2

abbrev pub HOLD : ℕ
HOLD = 3

-- the claim stands on the node n
pub record On (x : Claim) (n : ℕ) : Type 0 where
  pub on : x.stands ≡ true
  pub at : x.word ≡ n + 1

-- claims that tell of a cell's record
abbrev pub Tells : ℕ → Type 0
Tells c = (c ≡ BACK) ⊎ (c ≡ HOLD)

-- of the claim alone: its pages are a whole chain that the node heads, each node once, with the cell's records where the claim began to stand
pub record IsClaim (p : Plan) (seen : List Entry) (x : Claim) (n : ℕ) : Type 0 where
  pub cell : x.cell < cells p
  pub began : x.at ≤ length seen
  pub rest : List Held
  pub heads : x.pages ≡ record { node = n; words = x.image } ∷ rest
  pub linked : Linked x.pages 0
  pub node : (i : ℕ) (h : Held) → get_elem? x.pages i ≡ some h → IsNode p h
  pub records : records_of x.pages ≡ records_at p (take x.at seen) x.cell
  pub counted : IsCounted x.pages
  pub once : Once (nodes_of x.pages)

-- what is known of a seat's claims with no regard to the words
pub record ClaimsSound (p : Plan) (seen : List Entry) (claims : List Claim) : Type 0 where
  pub four : length claims ≡ CLAIMS
  pub named : (c : ℕ) (x : Claim) → get_elem? claims c ≡ some x → x.stands ≡ true → (n : ℕ) × On x n
  pub there : (c n : ℕ) (x : Claim) → get_elem? claims c ≡ some x → On x n → (n < nodes p) × (length x.image ≡ NODE_WIDTH)
  pub told : (c n : ℕ) (x : Claim) → get_elem? claims c ≡ some x → Tells c → On x n → IsClaim p seen x n

-- what stands in the claim words of a seat's least number, and the nodes that its claims stand on
pub record SeatClaims (p : Plan) (W : World) (s : ℕ) (numbers : List ℕ) (least : ℕ) (seen : List Entry) (claims : List Claim) : Type 0 where
  pub sound : ClaimsSound p seen claims
  pub word : (c : ℕ) (x : Claim) → 0 < length numbers → get_elem? claims c ≡ some x → W.word (claim_at least c) ≡ x.word
  pub guard : (c : ℕ) (x : Claim) → 0 < length numbers → get_elem? claims c ≡ some x → W.guard (claim_at least c) ≡ (if x.stands then x.word else 0)
  -- nothing stands in the words of its other numbers
  pub others : (x c : ℕ) → has numbers x ≡ true → x ≢ least → c < CLAIMS → (W.word (claim_at x c) ≡ 0) × (W.guard (claim_at x c) ≡ 0)
  pub none_spent : (c n : ℕ) (x : Claim) → length numbers ≡ 0 → get_elem? claims c ≡ some x → ¬ On x n
  -- the node keeps its words, and is no seat's own, but for the claimant's under Own
  pub image : (c n : ℕ) (x : Claim) → get_elem? claims c ≡ some x → On x n → W.node n ≡ x.image
  pub kept : (c n t : ℕ) (x : Claim) → get_elem? claims c ≡ some x → On x n → W.class n ≡ Own t → (c ≡ OWN) × (t ≡ s)
  -- while the cell's backup names the node, the history has no entry on the cell since, and the cell's chain is the claim's pages
  pub calm : (c n : ℕ) (x : Claim) → get_elem? claims c ≡ some x → Tells c → On x n → W.backup x.cell / 2 ≡ n → NoneOn p x.cell (drop x.at W.log)
  pub pages : (c n : ℕ) (x : Claim) → get_elem? claims c ≡ some x → Tells c → On x n → W.backup x.cell / 2 ≡ n → W.chain x.cell ≡ x.pages
  -- and while the history has no entry on the cell since, the backup names the node
  pub stays : (c n : ℕ) (x : Claim) → get_elem? claims c ≡ some x → Tells c → On x n → NoneOn p x.cell (drop x.at W.log) → W.backup x.cell / 2 ≡ n

-- a claim that stands is in its word, which is one of the claim words
pub record Guards (p : Plan) (word guard : ℕ → ℕ) : Type 0 where
  pub named : (w n : ℕ) → guard w ≡ n + 1 → word w ≡ n + 1
  pub within : (w n : ℕ) → guard w ≡ n + 1 → w < CLAIMS * p.seats
