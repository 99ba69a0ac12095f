-- Lists of nodes in which the order says nothing.
use Rattle.std.specs.Prelude.{◌≡◌, ℕ, ◌+◌, ◌==◌, List, [], ◌∷◌, length, if◌then◌else◌}

-- how often n stands in the list
abbrev pub times : ℕ → List ℕ → ℕ
times n [] = 0
times n (x ∷ xs) = (if x == n then 1 else 0) + times n xs

-- ys has all that xs has, but one n
pub record IsWithout (n : ℕ) (xs ys : List ℕ) : Type 0 where
  pub times : (m : ℕ) → times m xs ≡ times m ys + (if n == m then 1 else 0)
  pub length : length xs ≡ length ys + 1
