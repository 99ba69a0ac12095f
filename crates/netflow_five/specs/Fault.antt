-- Which of the four tests bytes fail first where a datagram is to begin.
use Rattle.std.specs.Prelude.{◌≡◌, ◌≢◌, ◌⊎◌, ℕ, ◌+◌, ◌*◌, ◌<◌, ◌≤◌, List, length}
use Rattle.netflow_five.specs.Datagram.{version_of, count_of}
use Rattle.netflow_five.specs.declared.malformed.Malformed.{Malformed}
use Rattle.netflow_five.specs.declared.malformed.Malformed.TheVariants.{ShortHeader, Version, Count, ShortRecords}

-- the count of records is none that a datagram may have
abbrev pub IsBadCount : ℕ → Type 0
IsBadCount count = (count ≡ 0) ⊎ (30 < count)

-- the bytes fail this test and none before it, and these are the numbers that they have there
abbrev pub IsFault : List ℕ → Malformed → Type 0
IsFault bytes (ShortHeader left) = (left ≡ length bytes) × (left < 24)
IsFault bytes (Version found) = (24 ≤ length bytes) × (found ≡ version_of bytes) × (found ≢ 5)
IsFault bytes (Count found) = (24 ≤ length bytes) × (version_of bytes ≡ 5) × (found ≡ count_of bytes) × IsBadCount found
IsFault bytes (ShortRecords left wanted) = (version_of bytes ≡ 5) × (0 < count_of bytes) × (count_of bytes ≤ 30)
    × (length bytes ≡ 24 + left) × (wanted ≡ 48 * count_of bytes) × (left < wanted)
