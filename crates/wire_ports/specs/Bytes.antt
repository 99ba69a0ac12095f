-- What a call does to the bytes that a port tells. `None` is a port that doesn't tell.
use Rattle.std.specs.Prelude.{◌≡◌, ℕ, ◌<◌, ◌++◌, List, length, Option, Some, None}

-- of what was left these bytes were read, and the rest is left now; what isn't told stays untold
abbrev pub IsReadOf : Option (List ℕ) → List ℕ → Option (List ℕ) → Type 0
IsReadOf None read now = now ≡ None
IsReadOf (Some before) read now = (rest : List ℕ) × (before ≡ read ++ rest) × (now ≡ Some rest)

-- these bytes came to what was taken; what isn't told stays untold
abbrev pub Appends : Option (List ℕ) → List ℕ → Option (List ℕ) → Type 0
Appends None bytes now = now ≡ None
Appends (Some before) bytes now = now ≡ Some (before ++ bytes)

-- more than so many bytes are left, where they are told
abbrev pub IsLonger : ℕ → Option (List ℕ) → Type 0
IsLonger most None = Unit {0}
IsLonger most (Some bytes) = most < length bytes
