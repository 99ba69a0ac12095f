-- Bytes cut at one byte.
use Rattle.std.specs.Prelude.{ℕ, ◌-◌, ◌==◌, List, [], Option, Some, None, length, take, slice_index, if◌then◌else◌}
use Rattle.std.specs.List.{slice_split}

-- the parts between the places of a byte: one more than it has places
abbrev pub parts_at : ℕ → List ℕ → List (List ℕ)
parts_at byte bytes = slice_split (λ b. b == byte) bytes

-- the parts of what is left, if anything
abbrev pub parts_in : ℕ → Option (List ℕ) → List (List ℕ)
parts_in byte None = []
parts_in byte (Some bytes) = parts_at byte bytes

-- without a line feed at the very end
abbrev pub without_last_feed : List ℕ → List ℕ
without_last_feed bytes = if slice_index bytes (length bytes - 1) == 10 then take (length bytes - 1) bytes else bytes

-- cut at line feeds: one at the very end ends the last line, and begins no further one
abbrev pub lines_of : List ℕ → List (List ℕ)
lines_of bytes = parts_at 10 (without_last_feed bytes)

-- cut at spaces
abbrev pub words_of : List ℕ → List (List ℕ)
words_of line = parts_at 32 line
