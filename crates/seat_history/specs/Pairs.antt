-- A finite map as its pairs in a row.
use Rattle.std.specs.Prelude.{◌≡◌, ℕ, ◌<◌, ◌^◌, ◌==◌, All, Bool, true, not, List, Option, Some, None, map}
use Rattle.std.specs.List.Sorted.{IsStrictlyIncreasing}
use Rattle.std.specs.Map.{lookup, keys_of}
use Rattle.seat_history.specs.Key.{key_number}
use Rattle.seat_history.specs.declared.key.KeyWords.{KeyWords}

-- keys with their values, in a row
abbrev pub Pairs : Type 0
Pairs = List (KeyWords × List ℕ)

-- each key is below those after it
abbrev pub HasRisingKeys : Pairs → Type 0
HasRisingKeys pairs = IsStrictlyIncreasing (map key_number (keys_of pairs))

-- the value under the key with this number
abbrev pub value_in : Pairs → ℕ → Option (List ℕ)
value_in pairs number = lookup (λ key. key_number key == number) pairs

-- by rising key, just the keys that have a value, with that value
pub record ArePairsOf (values : ℕ → Option (List ℕ)) (pairs : Pairs) : Type 0 where
  pub rising : HasRisingKeys pairs
  pub whole : (number : ℕ) → value_in pairs number ≡ values number

-- the words of the key and of the value are below 2^64
pub record IsPairInRange (pair : KeyWords × List ℕ) : Type 0 where
  pub k0 : pair.0.k0 < 2 ^ 64
  pub k1 : pair.0.k1 < 2 ^ 64
  pub value : All (λ word. word < 2 ^ 64) pair.1

-- the number isn't the last one, if any
abbrev pub differs : Option ℕ → ℕ → Bool
differs None number = true
differs (Some last) number = not (last == number)
