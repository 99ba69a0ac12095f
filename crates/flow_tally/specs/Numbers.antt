-- Numbers in words.
use Rattle.std.specs.Prelude.{ℕ, ◌&&◌, List, length, Option, Some, None, if◌then◌else◌, nat_lt, nat_le}
use Rattle.std.specs.Str.{all_ascii_digits}
use Rattle.std.specs.Str.Parse.{digits_value}

-- the number that one or more decimal digits stand for, where it is in the range
unfoldable pub decimal_in : ℕ → ℕ → List ℕ → Option ℕ
decimal_in least most text =
    if nat_lt 0 (length text) && (all_ascii_digits text && (nat_le least (digits_value 10 text) && nat_le (digits_value 10 text) most))
    then Some (digits_value 10 text) else None

-- the number given, in its range, or the default where none is given
abbrev pub number_or : ℕ → ℕ → ℕ → Option (List ℕ) → Option ℕ
number_or default least most None = Some default
number_or default least most (Some text) = decimal_in least most text

-- the number given, where one is given that is no larger than this
abbrev pub number_up_to : ℕ → Option (List ℕ) → Option ℕ
number_up_to most None = None
number_up_to most (Some text) = decimal_in 0 most text
