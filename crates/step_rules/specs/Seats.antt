-- What the rule says of each seat, and what the steps of other seats leave of it.
use Rattle.std.specs.Prelude.{◌≡◌, ℕ, ◌+◌, ◌/◌, ◌<◌, ◌≤◌, true, List, ◌++◌, length}
use Rattle.seat_history.specs.declared.entry.Entry.{Entry}
use Rattle.step_rules.specs.Claims.{OWN, SeatClaims}
use Rattle.step_rules.specs.History.{GoesOn, NoneBy, NoneOn}
use Rattle.step_rules.specs.Layout.{claim_at}
use Rattle.step_rules.specs.Lawful.{Lawful}
use Rattle.step_rules.specs.Looks.{SeatLook}
use Rattle.step_rules.specs.Nodes.{SeatNodes}
use Rattle.step_rules.specs.Readers.{SeatReader}
use Rattle.step_rules.specs.Scans.{SeatScan}
use Rattle.step_rules.specs.Stock.{IsStock}
use Rattle.step_rules.specs.Trail.{IsTrail}
use Rattle.step_rules.specs.Versions.{SeatVersions}
use Rattle.step_rules.specs.Views.{claim_of, number}
use Rattle.step_rules.specs.World.{World, Own, Retired, Once, has}
use Rattle.step_rules.specs.Writers.{LeavesLocks, SeatWriter, sites}
use Rattle.step_rules.specs.declared.layout.TheConstants.{CLAIMS}
use Rattle.step_rules.specs.declared.plan.Plan.{Plan}
use Rattle.step_rules.specs.declared.view.View.{View}

-- where each number has this holder, the seat s holds these callers' numbers, each once
pub record SeatNumbers (p : Plan) (holder : ℕ → ℕ) (s : ℕ) (numbers : List ℕ) : Type 0 where
  pub held : (x : ℕ) → has numbers x ≡ true → holder x ≡ s
  pub below : (x : ℕ) → has numbers x ≡ true → x < p.seats
  pub once : Once numbers

-- the seat has seen a first part of the history, in which all its own entries stand
pub record SeatSeen (log : List Entry) (numbers : List ℕ) (seen : List Entry) : Type 0 where
  pub rest : List Entry
  pub whole : log ≡ seen ++ rest
  pub own : (x : ℕ) → has numbers x ≡ true → NoneBy x rest

-- what the rule says of the seat s, whose view is v
pub record SeatOk (p : Plan) (W : World) (s : ℕ) (v : View) : Type 0 where
  pub plan : 0 < length v.numbers → v.plan ≡ p
  pub numbers : SeatNumbers p W.holder s v.numbers
  pub nodes : SeatNodes p W.class W.node s v.own v.retired
  pub stock : IsStock p (length v.numbers) v.seen v.stands (length v.own + length v.retired) v.removes
  pub seen : SeatSeen W.log v.numbers v.seen
  pub earlier : GoesOn v.earlier v.seen
  pub lawful : Lawful p v.numbers v.seen v.stands
  pub trail : IsTrail v.since v.trail v.seen
  pub look : SeatLook p W.backup W.log v.seen v.look
  pub claims : SeatClaims p W s v.numbers (number v) v.seen v.claims
  pub scan : SeatScan p W.guard v.scan v.retired
  pub versions : SeatVersions W.version v.trail
  pub writer : SeatWriter p (sites W) s v.seen (claim_of OWN v) v.writer
  pub reader : SeatReader p W.version W.inline v.seen v.reader

-- what a step of another seat leaves to the seat s, which holds these numbers: the history grows by `more`
pub record Leaves (p : Plan) (s : ℕ) (numbers : List ℕ) (W W' : World) (more : List Entry) : Type 0 where
  pub log : W'.log ≡ W.log ++ more
  pub by : (x : ℕ) → W.holder x ≡ s → NoneBy x more
  pub holder : (x : ℕ) → W.holder x ≡ s → W'.holder x ≡ s
  pub own : (n : ℕ) → W.class n ≡ Own s → W'.class n ≡ Own s
  pub words : (n : ℕ) → W.class n ≡ Own s → W'.node n ≡ W.node n
  pub retired : (n : ℕ) → W.class n ≡ Retired s → W'.class n ≡ Retired s
  -- the seat's claim words stay, with what stands in them
  pub word : (x c : ℕ) → has numbers x ≡ true → c < CLAIMS → W'.word (claim_at x c) ≡ W.word (claim_at x c)
  pub guard : (x c : ℕ) → has numbers x ≡ true → c < CLAIMS → W'.guard (claim_at x c) ≡ W.guard (claim_at x c)
  -- no claim begins to stand on a node that the seat has retired
  pub quiet : (w n : ℕ) → W.class n ≡ Retired s → W'.guard w ≡ n + 1 → W.guard w ≡ n + 1
  -- a node that the seat has claimed keeps its words, and becomes no seat's own
  pub image : (x c n : ℕ) → has numbers x ≡ true → c < CLAIMS → W.guard (claim_at x c) ≡ n + 1 → W'.node n ≡ W.node n
  pub taken : (x c n t : ℕ) → has numbers x ≡ true → c < CLAIMS → W.guard (claim_at x c) ≡ n + 1 → W'.class n ≡ Own t → W.class n ≡ Own t
  -- a cell's node and its chain change only with an entry on the cell, and then to no node that the seat has claimed
  pub same : (k : ℕ) → NoneOn p k more → W'.backup k / 2 ≡ W.backup k / 2
  pub falls : (k : ℕ) → NoneOn p k more → W'.backup k ≤ W.backup k
  pub chain : (k : ℕ) → NoneOn p k more → W'.chain k ≡ W.chain k
  pub fresh : (x c n k : ℕ) → has numbers x ≡ true → c < CLAIMS → W.guard (claim_at x c) ≡ n + 1 → W'.backup k / 2 ≡ n → NoneOn p k more
  pub locks : LeavesLocks s (sites W) (sites W')
