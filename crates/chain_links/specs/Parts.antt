-- The parts of a copy along the claimed chain.
use Rattle.std.specs.Prelude.{◌≡◌, ◌≢◌, ℕ, ◌+◌, List, [], ◌∷◌, ◌++◌}
use Rattle.chain_links.specs.Walking.{HasPassed}
use Rattle.node_pool.specs.Pool.{IsFilled, IsRead, IsTaken}
use Rattle.step_rules.specs.Bags.{times}
use Rattle.step_rules.specs.Claims.{WALK}
use Rattle.step_rules.specs.SeatData.{SeatData}
use Rattle.step_rules.specs.Sound.{Sound}
use Rattle.step_rules.specs.Views.{claim_of}
use Rattle.step_rules.specs.World.{nodes_of}
use Rattle.step_rules.specs.declared.view.Held.{Held}

-- the claimed first node is read; a link is announced, the cell looked at, and the link read; a link is noted; a free node is taken; a held
-- node is filled with words
pub data Part : Type 0 where
  reads : Held → Part
  passes : Held → Part
  notes : ℕ → Part
  takes : ℕ → Part
  fills : Held → Part

-- one more link is noted, by no step
abbrev pub with_note : ℕ → SeatData → SeatData
with_note link seat = record seat { noted = seat.noted ++ link ∷ [] }

abbrev pub Does : ℕ → ℕ → Part → SeatData → SeatData → Type 0
Does cell seen (reads page) before now = IsRead page.node page.words before now
Does cell seen (passes page) before now = HasPassed cell seen page before now
Does cell seen (notes link) before now = now ≡ with_note link before
Does cell seen (takes node) before now = IsTaken node before now
Does cell seen (fills held) before now = IsFilled held.node held.words before now

-- these parts were done, one after the other, and no step was made but theirs
abbrev pub HasDone : ℕ → ℕ → List Part → SeatData → SeatData → Type 0
HasDone cell seen [] before now = now ≡ before
HasDone cell seen (part ∷ parts) before now = (mid : SeatData) × Does cell seen part before mid × Sound mid.view × HasDone cell seen parts mid now

-- the nodes of the chain that they read, in their order
abbrev pub pages_read : List Part → List Held
pages_read [] = []
pages_read (reads page ∷ parts) = page ∷ pages_read parts
pages_read (passes page ∷ parts) = page ∷ pages_read parts
pages_read (notes link ∷ parts) = pages_read parts
pages_read (takes node ∷ parts) = pages_read parts
pages_read (fills held ∷ parts) = pages_read parts

-- the seat but for its lists, the history and the look, the words of its own nodes, its claims and its trail
abbrev pub IsSameSeat : SeatData → SeatData → Type 0
IsSameSeat before now = now ≡ record before {
  view = record before.view { seen = now.view.seen; look = now.view.look; own = now.view.own; claims = now.view.claims; trail = now.view.trail };
  free = now.free;
  holding = now.holding;
  noted = now.noted;
  fresh = now.fresh;
}

-- what all parts leave: the claims but for that on Walk, and the own nodes, which are free or held then as well
pub record OnlyCopied (before now : SeatData) : Type 0 where
  pub same : IsSameSeat before now
  pub claims : (c : ℕ) → c ≢ WALK → claim_of c now.view ≡ claim_of c before.view
  pub nodes : nodes_of now.view.own ≡ nodes_of before.view.own
  pub lists : (m : ℕ) → times m now.free + times m now.holding ≡ times m before.free + times m before.holding
