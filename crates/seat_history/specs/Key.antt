-- Keys as numbers.
use Rattle.std.specs.Prelude.{ℕ, ◌+◌, ◌*◌, ◌^◌}
use Rattle.seat_history.specs.declared.key.KeyWords.{KeyWords}

-- the key as one number: k0, and then k1
abbrev pub key_number : KeyWords → ℕ
key_number key = key.k0 * 2 ^ 64 + key.k1
