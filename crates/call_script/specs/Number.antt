-- Numbers and tuples as text.
use Rattle.std.specs.Prelude.{◌≡◌, ℕ, ◌-◌, ◌<◌, ◌≤◌, ◌^◌, List, ◌++◌, length, replicate, decimal}
use Rattle.std.specs.List.{AllZip}
use Rattle.call_script.specs.Cut.{parts_at}

-- the text of the number n, which is below 2^64
pub record IsNumber (text : List ℕ) (n : ℕ) : Type 0 where
  pub spelled : text ≡ decimal n
  pub small : n < 2 ^ 64

-- one to so many numbers with commas between them, and zeros for those that are missing
pub record IsTuple (most : ℕ) (text : List ℕ) (words : List ℕ) : Type 0 where
  pub numbers : List ℕ
  pub spelled : AllZip IsNumber (parts_at 44 text) numbers
  pub few : length numbers ≤ most
  pub filled : words ≡ numbers ++ replicate (most - length numbers) 0
