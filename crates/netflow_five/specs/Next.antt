-- The datagrams that bytes begin with, and where and why no further one begins.
use Rattle.std.specs.Prelude.{◌≡◌, ℕ, ◌<◌, ◌≤◌, List, ◌++◌, length, take, drop, Option, Some, None}
use Rattle.std.specs.List.{AllByRecursion}
use Rattle.netflow_five.specs.Datagram.{IsDatagram}
use Rattle.netflow_five.specs.Fault.{IsFault}
use Rattle.netflow_five.specs.File.{IsFile, joined}
use Rattle.netflow_five.specs.declared.malformed.Malformed.{Malformed}
use Rattle.netflow_five.specs.declared.refused.Refused.{Refused}
use Rattle.netflow_five.specs.declared.refused.Refused.TheVariants as refused
use Rattle.netflow_five.specs.declared.malformed.Malformed.TheVariants.{ShortHeader, ShortRecords}

-- the bytes up to a place are these datagrams
pub record ReadTo (bytes : List ℕ) (at : ℕ) (ds : List (List ℕ)) : Type 0 where
  pub file : IsFile (take at bytes) ds
  pub within : at ≤ length bytes

-- no further datagram begins at this place: there the bytes end, or they fail this test first
abbrev pub StopsAt : List ℕ → ℕ → Option Malformed → Type 0
StopsAt bytes at None = at ≡ length bytes
StopsAt bytes at (Some cause) = (at < length bytes) × IsFault (drop at bytes) cause

-- too few bytes are there, so that more of them may make it a datagram
abbrev pub IsShort : Malformed → Type 0
IsShort (ShortHeader left) = Unit {0}
IsShort (ShortRecords left wanted) = Unit {0}
IsShort _ = ⊥

-- these datagrams came to what was collected, whatever that was
abbrev pub CameTo : {C : Type 0} → (C → List (List ℕ) → Type 0) → C → List (List ℕ) → C → Type 0
CameTo holds old ds new = (before : List (List ℕ)) → holds old before → holds new (before ++ ds)

-- the bytes up to a place are datagrams, which came to what was collected
abbrev pub CollectsTo : {C : Type 0} → (C → List (List ℕ) → Type 0) → List ℕ → ℕ → C → C → Type 0
CollectsTo holds bytes at old new = (ds : List (List ℕ)) × ReadTo bytes at ds × CameTo holds old ds new

-- some datagrams that the bytes begin with came to what was collected
abbrev pub CollectsSome : {C : Type 0} → (C → List (List ℕ) → Type 0) → List ℕ → C → C → Type 0
CollectsSome holds bytes old new = (at : ℕ) × CollectsTo holds bytes at old new

-- what was collected of bytes that are refused
abbrev pub StaysAt : {C : Type 0} → (C → List (List ℕ) → Type 0) → List ℕ → C → C → Refused → Type 0
StaysAt holds bytes old new (refused.Malformed offset cause) = CollectsTo holds bytes offset old new
StaysAt holds bytes old new refused.NoMemory = CollectsSome holds bytes old new

-- the bytes begin with these datagrams, which came to what was collected, and this is the rest of them
pub record CollectsFront {C : Type 0} (holds : C → List (List ℕ) → Type 0) (bytes : List ℕ) (old : C) (ds : List (List ℕ)) (rest : List ℕ) (new : C) : Type 0 where
  pub each : AllByRecursion IsDatagram ds
  pub whole : bytes ≡ joined ds ++ rest
  pub came : CameTo holds old ds new
