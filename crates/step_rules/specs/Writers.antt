-- A change in flight: from its exchange on, while its Own claim stands.
use Rattle.std.specs.Prelude.{◌≡◌, ◌≢◌, ℕ, ◌+◌, ◌/◌, ◌^◌, ◌<◌, ◌≤◌, ◌⊎◌, List, take, drop}
use mathlib.Core.Option.{some}
use lib.ListN.{get_elem?}
use Rattle.seat_history.specs.declared.entry.Entry.{Entry}
use Rattle.step_rules.specs.Claims.{On}
use Rattle.step_rules.specs.History.{NoneOn, cell_of}
use Rattle.step_rules.specs.Layout.{cells}
use Rattle.step_rules.specs.Versions.{FoundVersion, IsEven}
use Rattle.step_rules.specs.World.{Class, Own, World}
use Rattle.step_rules.specs.declared.layout.TheConstants.{NODE_WIDTH}
use Rattle.step_rules.specs.declared.plan.Plan.{Plan}
use Rattle.step_rules.specs.declared.view.Claim.{Claim}
use Rattle.step_rules.specs.declared.view.Stage.TheVariants.{Grounded, Locked, Released}
use Rattle.step_rules.specs.declared.view.Writer.{Writer}

-- the parts of the world that flights rest on
pub record Sites : Type 0 where
  pub class : ℕ → Class
  pub backup : ℕ → ℕ
  pub log : List Entry
  pub version : ℕ → ℕ
  pub inline : ℕ → List ℕ
  pub locker : ℕ → ℕ
  pub source : ℕ → ℕ → ℕ

abbrev pub sites : World → Sites
sites W = record { class = W.class; backup = W.backup; log = W.log; version = W.version; inline = W.inline; locker = W.locker; source = W.source }

abbrev pub Flies : Writer → Type 0
Flies w = w.stage ≢ Grounded

abbrev pub HasLocked : Writer → Type 0
HasLocked w = (w.stage ≡ Locked) ⊎ (w.stage ≡ Released)

-- of the view alone, whose claim on Own is `mine`: the flight's entry is on its cell, and it locks once, at the greatest version found before
pub record WriterSound (p : Plan) (seen : List Entry) (mine : Claim) (w : Writer) : Type 0 where
  pub cell : Flies w → w.cell < cells p
  pub own : Flies w → On mine w.node
  pub change : Flies w → (e : Entry) × (get_elem? seen w.change ≡ some e) × (cell_of p e.call ≡ w.cell)
  pub even : HasLocked w → IsEven w.version × (w.version < 2 ^ 63)
  pub latest : HasLocked w → (u : ℕ) → FoundVersion w.cell u w.before → u ≤ w.version
  pub stores : w.stage ≡ Locked → w.stores ≤ NODE_WIDTH

-- of the flight of the seat s
pub record SeatWriter (p : Plan) (X : Sites) (s : ℕ) (seen : List Entry) (mine : Claim) (w : Writer) : Type 0 where
  pub sound : WriterSound p seen mine w
  pub before : Flies w → (u : ℕ) → FoundVersion w.cell u w.before → u ≤ X.version w.cell
  -- while the backup names its node, it is the last change of the cell, and the node is nobody's own
  pub last : Flies w → X.backup w.cell / 2 ≡ w.node → NoneOn p w.cell (drop (w.change + 1) X.log)
  pub free : Flies w → (t : ℕ) → X.class w.node ≢ Own t
  -- while it has the lock, the version is the odd one, and as many inline words as it stored are its node's
  pub locked : w.stage ≡ Locked → (X.locker w.cell ≡ s + 1) × (X.version w.cell ≡ w.version + 1) × (take w.stores (X.inline w.cell) ≡ take w.stores mine.image)
  pub released : w.stage ≡ Released → w.version + 2 ≤ X.version w.cell
  -- it has no other lock
  pub locks : (k : ℕ) → X.locker k ≡ s + 1 → (w.stage ≡ Locked) × (w.cell ≡ k)
  -- while it is the last change of the cell, the backup names its node
  pub stays : Flies w → NoneOn p w.cell (drop (w.change + 1) X.log) → X.backup w.cell / 2 ≡ w.node
  -- it is later than the changes whose words stood there under a version that was found before; what it released are its own words
  pub later : Flies w → (u : ℕ) → FoundVersion w.cell u w.before → X.source w.cell u ≤ w.change
  pub sourced : w.stage ≡ Released → X.source w.cell (w.version + 2) ≡ w.change + 1

-- what a step of another seat leaves to the seat s: versions only rise; where the seat has the lock, the version and the inline words stay;
-- and it gets no lock
pub record LeavesLocks (s : ℕ) (X Y : Sites) : Type 0 where
  pub version : (k : ℕ) → X.version k ≤ Y.version k
  pub locked : (k : ℕ) → X.locker k ≡ s + 1 → (Y.locker k ≡ s + 1) × (Y.version k ≡ X.version k) × (Y.inline k ≡ X.inline k)
  pub locks : (k : ℕ) → Y.locker k ≡ s + 1 → X.locker k ≡ s + 1
  -- and what is known of the words of each version up to now
  pub source : (k u : ℕ) → u ≤ X.version k → Y.source k u ≡ X.source k u
  -- while an even version is there, the inline words stay
  pub inline : (k : ℕ) → IsEven (X.version k) → Y.version k ≡ X.version k → Y.inline k ≡ X.inline k
