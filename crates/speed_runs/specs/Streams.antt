-- Streams of 32-bit little-endian numbers.
use Rattle.std.specs.Prelude.{◌≡◌, ◌≢◌, ◌+◌, ◌*◌, ◌%◌, ◌^◌, ◌<◌, ℕ, List, [], ◌∷◌, length, slice_index}
use Rattle.speed_runs.specs.declared.stream.Stream.{Stream}
use Rattle.speed_runs.specs.declared.stream.Stream.TheVariants.{Numbers, Empty, Ragged}

-- the numbers that the bytes spell, four bytes each, the least byte first
abbrev pub numbers_in : List ℕ → List ℕ
numbers_in (a ∷ b ∷ c ∷ d ∷ later) = (a + 2 ^ 8 * b + 2 ^ 16 * c + 2 ^ 24 * d) ∷ numbers_in later
numbers_in _ = []

-- what a file with these bytes has
abbrev pub IsRead : List ℕ → Stream → Type 0
IsRead bytes (Numbers numbers) = (numbers.items ≡ numbers_in bytes) × (0 < length bytes) × (length bytes % 4 ≡ 0)
IsRead bytes Empty = bytes ≡ []
IsRead bytes Ragged = length bytes % 4 ≢ 0

-- the number that a thread of so many calls draws: from a stream, which goes round, each thread has its own part; else it is the sum of the two
abbrev pub drawn : List ℕ → ℕ → ℕ → ℕ → ℕ
drawn [] calls thread i = thread + i
drawn (n ∷ later) calls thread i = slice_index (n ∷ later) ((thread * calls + i) % length (n ∷ later))
