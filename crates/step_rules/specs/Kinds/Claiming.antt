-- Claims and scans.
use Rattle.std.specs.Prelude.{◌≡◌, ◌≢◌, ℕ, ◌*◌, ◌/◌, ◌<◌, true, List, ◌++◌, drop, filter, Some}
use mathlib.Core.Option.{some}
use lib.ListN.{get_elem?}
use Rattle.seat_history.specs.declared.entry.Entry.{Entry}
use Rattle.step_rules.specs.Claims.{OWN, IsClaim, On}
use Rattle.step_rules.specs.History.{NoneOn}
use Rattle.step_rules.specs.Kinds.Backup.{Looks}
use Rattle.step_rules.specs.Layout.{claim_at}
use Rattle.step_rules.specs.Nodes.{IsNode}
use Rattle.step_rules.specs.Recent.{IsRecent}
use Rattle.step_rules.specs.Views.{claim_of, claimed_view, freed_view, is_freed, number, scanned_view}
use Rattle.step_rules.specs.World.{has, nodes_of}
use Rattle.step_rules.specs.declared.layout.TheConstants.{CLAIMS}
use Rattle.step_rules.specs.declared.view.Claim.{Claim}
use Rattle.step_rules.specs.declared.view.Held.{Held}
use Rattle.step_rules.specs.declared.view.Kind.TheVariants.{Recheck}
use Rattle.step_rules.specs.declared.view.Look.{Look}
use Rattle.step_rules.specs.declared.view.Stage.TheVariants.{Locked}
use Rattle.step_rules.specs.declared.view.View.{View}

-- the claim c may be stored for the node n: on Own, the seat has the node for its own
pub record MayAnnounce (c n : ℕ) (v : View) : Type 0 where
  pub claim : c < CLAIMS
  pub own : c ≡ OWN → has (nodes_of v.own) n ≡ true
  -- and no change in flight has the lock of a cell
  pub unlocked : c ≡ OWN → v.writer.stage ≢ Locked

-- a recheck of the claim c, which names the node of the word x, found the word y in the cell k with this node: the claim stands
pub record Claims (c k x y : ℕ) (v w : View) : Type 0 where
  pub words : List ℕ
  pub pages : List Held
  pub log : List Entry
  pub after : w ≡ claimed_view c k x y words pages log v
  pub rest : List Entry
  pub seen : log ≡ v.seen ++ rest
  pub recent : IsRecent v.plan k y log
  pub claim : IsClaim v.plan log (claim_of c w) (y / 2)
  pub moved : (l : Look) → v.look ≡ Some l → l.cell ≡ k → y / 2 ≢ l.word / 2 → ¬ NoneOn v.plan k (drop l.at log)

-- a recheck, of a claim on Back or Hold
pub record Rechecks (c k x y : ℕ) (v w : View) : Type 0 where
  pub same : y / 2 ≡ x / 2 → Claims c k x y v w
  pub other : y / 2 ≢ x / 2 → Looks (Recheck c k x) k y v w

-- the last load of a scan, at the word w, found x: the freed nodes are those old ones that no word named, each once, in their order; no claim
-- of the seat stands on one
pub record Frees (w x : ℕ) (v u : View) : Type 0 where
  pub freed : List Held
  pub after : u ≡ freed_view freed (scanned_view w x v)
  pub nodes : nodes_of freed ≡ filter (is_freed (scanned_view w x v).scan) v.retired
  pub known : (i : ℕ) (h : Held) → get_elem? freed i ≡ some h → IsNode v.plan h
  pub unclaimed : (c n : ℕ) (y : Claim) → get_elem? v.claims c ≡ some y → has (nodes_of freed) n ≡ true → ¬ On y n

-- the word x that was found in the claim word w is the seat's own, where that word is of its numbers
pub record FindsOwn (w x : ℕ) (v : View) : Type 0 where
  pub least : (c : ℕ) → w ≡ claim_at (number v) c → c < CLAIMS → x ≡ (claim_of c v).word
  pub others : (y c : ℕ) → has v.numbers y ≡ true → y ≢ number v → w ≡ claim_at y c → c < CLAIMS → x ≡ 0

-- a scan loads the words in turn
abbrev pub MayScan : ℕ → View → Type 0
MayScan w v = (w < CLAIMS * v.plan.seats) × (w ≢ 0 → w ≡ v.scan.next)
