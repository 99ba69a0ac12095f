-- Numbers that are stored with the most significant byte first.
use Rattle.std.specs.Prelude.{ℕ, ◌+◌, ◌*◌, ◌^◌, List, [], ◌∷◌, length, take, drop}

-- the sum of each byte times 256 to the number of bytes after it
abbrev pub number : List ℕ → ℕ
number [] = 0
number (b ∷ bytes) = b * 256 ^ length bytes + number bytes

-- the number in the n bytes at a place
abbrev pub field : ℕ → ℕ → List ℕ → ℕ
field at n bytes = number (take n (drop at bytes))
