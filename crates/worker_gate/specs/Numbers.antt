-- Lists of numbers in which the order says nothing.
use Rattle.std.specs.Prelude.{◌≡◌, ℕ, ◌+◌, ◌≤◌, ◌==◌, List, [], ◌∷◌, ◌++◌, suc, zero, nat_lt, if◌then◌else◌}

-- how often n stands in the list
abbrev pub times : ℕ → List ℕ → ℕ
times n [] = 0
times n (x ∷ xs) = (if x == n then 1 else 0) + times n xs

-- 1 for each number below the bound, 0 for all others
abbrev pub once_below : ℕ → ℕ → ℕ
once_below bound n = if nat_lt n bound then 1 else 0

-- all numbers of the list are below the bound, and none stands twice
abbrev pub AtMostOnce : ℕ → List ℕ → Type 0
AtMostOnce bound xs = (n : ℕ) → times n xs ≤ once_below bound n

-- each number below the bound stands in the list once, and no other does
abbrev pub EachOnce : ℕ → List ℕ → Type 0
EachOnce bound xs = (n : ℕ) → times n xs ≡ once_below bound n

-- the numbers below the bound, the least first
abbrev pub all_below : ℕ → List ℕ
all_below zero = []
all_below (suc n) = all_below n ++ n ∷ []
