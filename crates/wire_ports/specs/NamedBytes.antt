-- Files in memory, each the pair of its name and its bytes.
use Rattle.std.specs.Prelude.{ℕ, ◌+◌, List, [], ◌∷◌, drop, if◌then◌else◌, slice_index_or}
use Rattle.std.specs.FinMap as finite
use Rattle.std.specs.Str.{bytes_eq}
use Rattle.wire_ports.specs.Ports.{Names}

-- the bytes under each name; of several files with one name the first counts
abbrev pub names_of : List (List ℕ × List ℕ) → Names
names_of files = finite.from_entries files

-- where the name stands first, and else the number of files
abbrev pub first_place : List ℕ → List (List ℕ × List ℕ) → ℕ
first_place name [] = 0
first_place name (f ∷ files) = if bytes_eq name f.0 then 0 else first_place name files + 1

-- the bytes of the file at a place without its first ones
abbrev pub bytes_from : List (List ℕ × List ℕ) → ℕ → ℕ → List ℕ
bytes_from files place at = drop at (slice_index_or files place ([], [])).1
