-- A text cut at the first byte of a kind.
use Rattle.std.specs.List.{AllByRecursion}
use Rattle.std.proofs.Common.{◌≡◌, ◌≢◌, ℕ, ◌<◌, ◌^◌, List, [], ◌∷◌, ◌++◌, All, decimal, refl, ap₂, arith}
use Rattle.std.proofs.lemmas.List.Elements.{recursion_from_All, All-from_get_or}
use Rattle.std.proofs.lemmas.Str.Parse.{digit_at}
use Rattle.decimal_text.proofs.Decimals.{spelling_digits}

same_by_recursion : (c : ℕ) (xs r ys s : List ℕ) → AllByRecursion (λ b. b ≢ c) xs → AllByRecursion (λ b. b ≢ c) ys → xs ++ c ∷ r ≡ ys ++ c ∷ s → (xs ≡ ys) × (r ≡ s)
same_by_recursion c [] r [] s in_xs in_ys is = (refl, cc is)
same_by_recursion c [] r (y ∷ ys) s in_xs in_ys is = let same : y ≡ c = cc is in absurd (in_ys.0 same)
same_by_recursion c (x ∷ xs) r [] s in_xs in_ys is = let same : x ≡ c = cc is in absurd (in_xs.0 same)
same_by_recursion c (x ∷ xs) r (y ∷ ys) s in_xs in_ys is =
    let head : x ≡ y = cc is in
    let tail : xs ++ c ∷ r ≡ ys ++ c ∷ s = cc is in
    let rest = same_by_recursion c xs r ys s in_xs.1 in_ys.1 tail in
    (ap₂ (λ (z : ℕ) (zs : List ℕ). z ∷ zs) head rest.0, rest.1)

-- what stands before the first such byte, and after it, is determined
pub same_cut : (c : ℕ) (xs r ys s : List ℕ) → All (λ b. b ≢ c) xs → All (λ b. b ≢ c) ys → xs ++ c ∷ r ≡ ys ++ c ∷ s → (xs ≡ ys) × (r ≡ s)
same_cut c xs r ys s in_xs in_ys = same_by_recursion c xs r ys s (recursion_from_All (λ b. b ≢ c) xs in_xs) (recursion_from_All (λ b. b ≢ c) ys in_ys)

-- a number's spelling has no byte below the digits
pub none_in_decimal : (n c : ℕ) → n < 2 ^ 64 → c < 48 → All (λ b. b ≢ c) (decimal n)
none_in_decimal n c small low =
    All-from_get_or (λ b. b ≢ c) (decimal n) 0 (λ i inside.
    let digit = digit_at (decimal n) i (spelling_digits (decimal n) n small refl).0 inside in
    λ same. omega arith)
