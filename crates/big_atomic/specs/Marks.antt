-- What a change owes for the mark of its cell: a version that it found before its exchange, and a try to clear the mark after it.
use Rattle.std.specs.Prelude.{◌≡◌, ◌≢◌, ℕ, ◌+◌, ◌*◌, ◌^◌, ◌≤◌, ◌⊎◌, true, List, ◌∷◌, ◌++◌, drop}
use Rattle.big_atomic.specs.Turns.{lost_steps}
use Rattle.step_rules.specs.Kinds.Standing.{is_look}
use Rattle.step_rules.specs.Versions.{IsOdd}
use Rattle.step_rules.specs.Views.{counted}
use Rattle.step_rules.specs.declared.view.Counted.{Counted}
use Rattle.step_rules.specs.declared.view.Kind.{Kind}
use Rattle.step_rules.specs.declared.view.Kind.TheVariants.{BackupExchange, MarkClear, VersionLoad, VersionLock}
use Rattle.step_rules.specs.declared.view.View.{View}

-- one of the steps is of this kind, and found x
pub record Among (kind : Kind) (x : ℕ) (steps : List Counted) : Type 0 where
  pub front : List Counted
  pub saw : ℕ
  pub back : List Counted
  pub whole : steps ≡ front ++ counted kind x saw ∷ back

-- a version load of the cell k found the version, and no step behind it is lost
pub record HasVersion (k version : ℕ) (steps : List Counted) : Type 0 where
  pub front : List Counted
  pub saw : ℕ
  pub rest : List Counted
  pub whole : steps ≡ front ++ counted (VersionLoad k) version saw ∷ rest
  pub kept : lost_steps rest ≡ 0

-- one of the steps is a look at the cell k that found the word
pub record FoundWord (k word : ℕ) (steps : List Counted) : Type 0 where
  pub front : List Counted
  pub look : Counted
  pub back : List Counted
  pub whole : steps ≡ front ++ look ∷ back
  pub looks : is_look k look.kind ≡ true
  pub found : look.found ≡ word

-- the version was found in the cell, and behind it the word
pub record HasTurn (k version word : ℕ) (steps : List Counted) : Type 0 where
  pub loaded : HasVersion k version steps
  pub looked : FoundWord k word loaded.rest

-- such a turn is among the seat's steps since its last stand
abbrev pub HasBegun : ℕ → ℕ → ℕ → View → Type 0
HasBegun k version word v = HasTurn k version word (drop v.since v.trail)

-- of the steps after an exchange that installed the node in the cell k: its mark was cleared, or the version was odd or the last one, or the
-- lock of the version found another one, or the clear of the mark found another word
abbrev pub Tries : ℕ → ℕ → ℕ → List Counted → Type 0
Tries k node version after = Among (MarkClear k node) (2 * node + 1) after ⊎ (IsOdd version ⊎ ((2 ^ 63 ≤ version)
    ⊎ (((x : ℕ) × (x ≢ version) × Among (VersionLock k version) x after) ⊎ ((x : ℕ) × (x ≢ 2 * node + 1) × Among (MarkClear k node) x after))))

-- a call's exchange of the cell k won, by a version that the call had found since its last lost step, and then it tried to clear the mark
pub record IsRefreshed (k : ℕ) (steps : List Counted) : Type 0 where
  pub before : List Counted
  pub word : ℕ
  pub node : ℕ
  pub saw : ℕ
  pub after : List Counted
  pub version : ℕ
  pub whole : steps ≡ before ++ counted (BackupExchange k word node) word saw ∷ after
  pub loaded : HasVersion k version before
  pub tries : Tries k node version after
