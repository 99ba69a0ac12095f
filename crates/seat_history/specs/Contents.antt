-- What an object has in it.
use Rattle.std.specs.Prelude.{ℕ, ◌==◌, List, Option, None, replicate, if◌then◌else◌}
use Rattle.seat_history.specs.declared.words.TheConstants.{WIDTH}

-- the words of each register, and the value under each key's number
pub record Contents : Type 0 where
  pub registers : ℕ → List ℕ
  pub values : ℕ → Option (List ℕ)

-- a record of zeros
abbrev pub zeros : List ℕ
zeros = replicate WIDTH 0

-- all registers are zeros, and no key has a value
abbrev pub blank : Contents
blank = record { registers = λ _. zeros; values = λ _. None }

-- f, with x at the number n
abbrev pub set_at : {X : Type 0} → (ℕ → X) → ℕ → X → ℕ → X
set_at f n x k = if n == k then x else f k
