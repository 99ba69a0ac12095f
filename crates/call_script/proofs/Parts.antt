-- Bytes cut at one byte.
use Rattle.std.specs.Prelude.{◌==◌}
use Rattle.std.proofs.Common.{All, ◌≡◌, ◌≢◌, ◌∙◌, ℕ, ◌<◌, List, [], ◌∷◌, ◌++◌, length, false, refl, ap, eq-eqb, ne_eqb, arith}
use Rattle.std.proofs.lemmas.List.Elements.{All-weaker}
use Rattle.std.proofs.lemmas.List.Splits.{length-slice_split, slice_split_at, slice_split_none}
use Rattle.call_script.specs.Cut.{parts_at}

other_byte : (byte b : ℕ) → b ≢ byte → (b == byte) ≡ false
other_byte byte b apart = ne_eqb b byte apart

-- bytes without this byte are one part
pub parts_none : (byte : ℕ) (bytes : List ℕ) → All (λ b. b ≢ byte) bytes → parts_at byte bytes ≡ bytes ∷ []
parts_none byte bytes none = slice_split_none (λ b. b == byte) bytes (All-weaker (λ b. b ≢ byte) (λ b. (b == byte) ≡ false) (other_byte byte) bytes none)

-- what stands before the first such byte is a part
pub parts_cut : (byte : ℕ) (bytes front back : List ℕ) → bytes ≡ front ++ byte ∷ back → All (λ b. b ≢ byte) front → parts_at byte bytes ≡ front ∷ parts_at byte back
parts_cut byte bytes front back whole none =
    ap (parts_at byte) whole
    ∙ slice_split_at (λ b. b == byte) front byte back (All-weaker (λ b. b ≢ byte) (λ b. (b == byte) ≡ false) (other_byte byte) front none) (eq-eqb byte byte refl)

-- there is always a part
pub parts_some : (byte : ℕ) (bytes : List ℕ) → 0 < length (parts_at byte bytes)
parts_some byte bytes = omega (arith, length-slice_split (λ b. b == byte) bytes)
