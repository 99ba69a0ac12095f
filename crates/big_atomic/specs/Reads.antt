-- Reads of a cell's inline words among a call's steps: one that answered, one that failed, and what a claim is stored for.
use Rattle.std.specs.Prelude.{◌≡◌, ◌≢◌, ℕ, ◌+◌, ◌⊎◌, true, List, [], ◌∷◌, ◌++◌, length}
use Rattle.big_atomic.specs.Marks.{Among}
use Rattle.big_atomic.specs.Turns.{is_claim_store}
use Rattle.cache_copy.specs.Reading.{read_steps}
use Rattle.seat_history.specs.declared.words.TheConstants.{WIDTH}
use Rattle.step_rules.specs.Versions.{IsEven, IsOdd}
use Rattle.step_rules.specs.Views.{counted}
use Rattle.step_rules.specs.declared.view.Counted.{Counted}
use Rattle.step_rules.specs.declared.view.Kind.TheVariants.{BackupLoad, VersionAgain, VersionLoad}

-- the steps are one read of the cell k and nothing else: an even version, all inline words, which are these, the backup, which had no mark when
-- the history was so long as the place says, and the same version again. None of them is a store
pub record IsInlineRead (k : ℕ) (words : List ℕ) (place : ℕ) (steps : List Counted) : Type 0 where
  pub version : ℕ
  pub word : ℕ
  pub saw : ℕ
  pub even : IsEven version
  pub unmarked : IsEven word
  pub whole : length words ≡ WIDTH + 1
  pub made : steps ≡ read_steps k version words saw ++ counted (BackupLoad k) word place ∷ counted (VersionAgain k) version place ∷ []
  pub many : length steps ≡ WIDTH + 4

-- a version of the cell k was found, and behind it another one
pub record FoundTwoVersions (k : ℕ) (steps : List Counted) : Type 0 where
  pub front : List Counted
  pub version : ℕ
  pub saw : ℕ
  pub rest : List Counted
  pub whole : steps ≡ front ++ counted (VersionLoad k) version saw ∷ rest
  pub again : ℕ
  pub differs : again ≢ version
  pub behind : Among (VersionAgain k) again rest

-- the steps show that a read of the cell k failed: its version was odd, or its backup was marked, or its two versions differ
abbrev pub ReadFailed : ℕ → List Counted → Type 0
ReadFailed k steps = ((version : ℕ) × IsOdd version × Among (VersionLoad k) version steps)
    ⊎ (((word : ℕ) × IsOdd word × Among (BackupLoad k) word steps) ⊎ FoundTwoVersions k steps)

-- a claim is stored only where the steps before show this cause
pub record ClaimsAreCaused (cause : List Counted → Type 0) (steps : List Counted) : Type 0 where
  pub each : (front back : List Counted) (step : Counted) → steps ≡ front ++ step ∷ back → is_claim_store step.kind ≡ true → cause front
