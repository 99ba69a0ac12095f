-- The files that a feed has, and what its count of faults and its last failure tell.
use Rattle.std.specs.Prelude.{◌≡◌, ◌⊎◌, ℕ, ◌^◌, ◌+◌, ◌-◌, ◌<◌, min, List, [], Option, Some, None, unwrap_or}
use Rattle.std.specs.FinMap as map
use Rattle.std.specs.Ordering.{nat_cmp}
use Rattle.std.specs.Cmp.Lexicographic.{slice_cmp}
use Rattle.wire_ports.specs.declared.feed.FailedIn.{FailedIn}
use Rattle.wire_ports.specs.declared.feed.FailedIn.TheVariants.{Start, Unknown}

-- bytes under names
abbrev pub Names : Type 0
Names = map.FinMap (slice_cmp nat_cmp) (List ℕ)

-- the bytes under a name, and none where it isn't there
abbrev pub bytes_under : Names → List ℕ → List ℕ
bytes_under names name = unwrap_or (map.get names name) []

-- what is left of a file that was just started: the bytes under its name, told exactly where the files are
abbrev pub left_at_start : Option Names → List ℕ → Option (List ℕ)
left_at_start None name = None
left_at_start (Some names) name = Some (bytes_under names name)

-- a count goes up by one, to 2^64 - 1 at most
abbrev pub one_more : ℕ → ℕ
one_more n = min (n + 1) (2 ^ 64 - 1)

-- the count rose, or stands at its last number
abbrev pub HasRisen : ℕ → ℕ → Type 0
HasRisen old new = (old < new) ⊎ (old ≡ 2 ^ 64 - 1)

-- the names are told, and this isn't one of them
abbrev pub IsUnknown : Option Names → List ℕ → Type 0
IsUnknown None name = ⊥
IsUnknown (Some names) name = map.get names name ≡ None

-- the last failure is the start of this file, of an unknown name only where that is told
abbrev pub IsStartFailure : Option Names → List ℕ → ℕ → Option (ℕ × FailedIn) → Type 0
IsStartFailure names name file failed = (failed ≡ Some (file, Start)) ⊎ (IsUnknown names name × (failed ≡ Some (file, Unknown)))
