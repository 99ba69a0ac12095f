-- The versions of the cells, and what a seat's version loads found.
use Rattle.std.specs.Prelude.{◌≡◌, ℕ, ◌+◌, ◌/◌, ◌%◌, ◌<◌, ◌≤◌, List, length, drop}
use mathlib.Core.Option.{some}
use lib.ListN.{get_elem?}
use Rattle.seat_history.specs.declared.entry.Entry.{Entry}
use Rattle.step_rules.specs.History.{NoneOn}
use Rattle.step_rules.specs.Untouched.{IsUntouched}
use Rattle.step_rules.specs.World.{World}
use Rattle.step_rules.specs.declared.plan.Plan.{Plan}
use Rattle.step_rules.specs.declared.view.Counted.{Counted}
use Rattle.step_rules.specs.declared.view.Kind.TheVariants.{VersionLoad}

abbrev pub IsEven : ℕ → Type 0
IsEven n = n % 2 ≡ 0

abbrev pub IsOdd : ℕ → Type 0
IsOdd n = n % 2 ≡ 1

-- one of the steps is a version load of the cell k that found u
pub record FoundVersion (k u : ℕ) (steps : List Counted) : Type 0 where
  pub place : ℕ
  pub step : Counted
  pub at : get_elem? steps place ≡ some step
  pub kind : step.kind ≡ VersionLoad k
  pub found : step.found ≡ u

-- of the cell k, where these are the versions, the inline words, the lockers, the sources, the nodes, the backup words and the history
pub record IsVersioned (p : Plan) (version : ℕ → ℕ) (inline : ℕ → List ℕ) (locker : ℕ → ℕ) (source : ℕ → ℕ → ℕ) (node : ℕ → List ℕ) (backup : ℕ → ℕ) (log : List Entry) (k : ℕ) : Type 0 where
  -- an odd version is locked
  pub locked : IsOdd (version k) → (s : ℕ) × (locker k ≡ s + 1)
  -- the history has an entry on the cell after the change that each passed version's words are of
  pub dated : (u : ℕ) → source k u ≤ length log
  pub passed : (u : ℕ) → IsEven u → u < version k → ¬ NoneOn p k (drop (source k u) log)
  -- where it has none since the version's, the inline words are the node's; and so it is where the backup is unmarked
  pub copied : IsEven (version k) → NoneOn p k (drop (source k (version k)) log) → inline k ≡ node (backup k / 2)
  pub settled : IsEven (backup k) → IsEven (version k) × NoneOn p k (drop (source k (version k)) log)
  -- a cell without an entry is as it was at the start
  pub untouched : NoneOn p k log → IsUntouched p k (version k) (backup k) (inline k) (node k)

abbrev pub VersionedAt : Plan → World → ℕ → Type 0
VersionedAt p W k = IsVersioned p W.version W.inline W.locker W.source W.node W.backup W.log k

-- no version that the seat found is above the cell's
pub record SeatVersions (version : ℕ → ℕ) (trail : List Counted) : Type 0 where
  pub found : (k u : ℕ) → FoundVersion k u trail → u ≤ version k
