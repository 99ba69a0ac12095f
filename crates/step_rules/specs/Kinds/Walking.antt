-- Claims on Walk.
use Rattle.std.specs.Prelude.{◌≡◌, ◌≢◌, ◌⊎◌, ℕ, ◌+◌, ◌/◌, ◌≤◌, true, List, ◌++◌, Some, drop}
use mathlib.Core.Option.{some}
use lib.ListN.{get_elem?}
use Rattle.seat_history.specs.declared.entry.Entry.{Entry}
use Rattle.step_rules.specs.Claims.{BACK, On, Tells, WALK}
use Rattle.step_rules.specs.History.{NoneOn}
use Rattle.step_rules.specs.Kinds.Backup.{Looks}
use Rattle.step_rules.specs.Recent.{IsRecent}
use Rattle.step_rules.specs.Views.{claim_of, claimed_pages, walked_view}
use Rattle.step_rules.specs.World.{has, nodes_of}
use Rattle.step_rules.specs.declared.view.Claim.{Claim}
use Rattle.step_rules.specs.declared.view.Kind.TheVariants.{Recheck}
use Rattle.step_rules.specs.declared.view.Look.{Look}
use Rattle.step_rules.specs.declared.view.View.{View}

-- the seat's Back claim stands on the node of the word y, of the cell k, and its Walk word names a node n of that chain
pub record MayWalk (k y n : ℕ) (v : View) : Type 0 where
  pub back : Claim
  pub claimed : get_elem? v.claims BACK ≡ some back
  pub stands : On back (y / 2)
  pub cell : back.cell ≡ k
  pub page : has (nodes_of (claimed_pages v)) n ≡ true
  pub named : (claim_of WALK v).word ≡ n + 1

-- the recheck found the word x with Back's node: the claim on n stands, with the words that the node has in the claimed chain, and since the
-- last look at the cell the mark was at most cleared
pub record Walks (k y x n : ℕ) (v w : View) : Type 0 where
  pub log : List Entry
  pub after : w ≡ walked_view n k y x log v
  pub rest : List Entry
  pub seen : log ≡ v.seen ++ rest
  pub recent : IsRecent v.plan k x log
  pub calm : (b : Claim) → get_elem? v.claims BACK ≡ some b → NoneOn v.plan k (drop b.at log)
  pub falls : (l : Look) → v.look ≡ Some l → l.cell ≡ k → NoneOn v.plan k (drop l.at log) → x ≤ l.word

-- a recheck of Walk: either its claim stands, or it is a look that found another node
pub record WalkRechecks (k y x n : ℕ) (v w : View) : Type 0 where
  pub same : x / 2 ≡ y / 2 → Walks k y x n v w
  pub other : x / 2 ≢ y / 2 → Looks (Recheck WALK k y) k x v w

-- a recheck of the claim c from the word y: the claim's word names the node of y, or on Walk a link of the chain that this node heads
pub record MayRecheck (c k y : ℕ) (v : View) : Type 0 where
  pub claim : Tells c ⊎ (c ≡ WALK)
  pub named : Tells c → (claim_of c v).word ≡ y / 2 + 1
  pub walks : c ≡ WALK → (n : ℕ) × MayWalk k y n v
