-- Bytes have one fault at most, and go bad at one place.
use Rattle.std.specs.Prelude.{◌⊎◌}
use Rattle.std.proofs.Common.{◌≡◌, ℕ, ◌<◌, ◌≤◌, List, length, drop, ap, ap₂, sym, ◌∙◌, subst, inl, inr, arith}
use Rattle.std.proofs.lemmas.Bool.{cases_order}
use Rattle.netflow_five.specs.Datagram.{version_of, count_of}
use Rattle.netflow_five.specs.Fault.{IsFault, IsBadCount}
use Rattle.netflow_five.specs.File.{IsBad}
use Rattle.netflow_five.specs.declared.malformed.Malformed.{Malformed}
use Rattle.netflow_five.specs.declared.malformed.Malformed.TheVariants.{ShortHeader, Version, Count, ShortRecords}

-- a header that is there isn't short
not_short : (bytes : List ℕ) (left : ℕ) → IsFault bytes (ShortHeader left) → 24 ≤ length bytes → ⊥
not_short bytes left fault enough = omega (arith, fault.0, fault.1)

-- a version of 5 isn't at fault
not_version : (bytes : List ℕ) (found : ℕ) → IsFault bytes (Version found) → version_of bytes ≡ 5 → ⊥
not_version bytes found fault five = fault.2 (fault.1 ∙ five)

-- a count from 1 to 30 isn't at fault
not_count : (bytes : List ℕ) (found : ℕ) → IsFault bytes (Count found) → 0 < count_of bytes → count_of bytes ≤ 30 → ⊥
not_count bytes found fault some few = within fault.3
  where
    within : IsBadCount found → ⊥
    within (inl none) = omega (arith, fault.2)
    within (inr many) = omega (arith, fault.2)

-- where records are short, the header is there
header_there : (bytes : List ℕ) (left wanted : ℕ) → IsFault bytes (ShortRecords left wanted) → 24 ≤ length bytes
header_there bytes left wanted fault = omega (arith, fault.3)

-- bytes fail one test first
pub one_fault : (bytes : List ℕ) (a b : Malformed) → IsFault bytes a → IsFault bytes b → a ≡ b
one_fault bytes (ShortHeader l) (ShortHeader m) f g = ap (λ (n : ℕ). ShortHeader n) (f.0 ∙ sym g.0)
one_fault bytes (ShortHeader l) (Version v) f g = absurd (not_short bytes l f g.0)
one_fault bytes (ShortHeader l) (Count c) f g = absurd (not_short bytes l f g.0)
one_fault bytes (ShortHeader l) (ShortRecords m w) f g = absurd (not_short bytes l f (header_there bytes m w g))
one_fault bytes (Version v) (ShortHeader m) f g = absurd (not_short bytes m g f.0)
one_fault bytes (Version v) (Version u) f g = ap (λ (n : ℕ). Version n) (f.1 ∙ sym g.1)
one_fault bytes (Version v) (Count c) f g = absurd (not_version bytes v f g.1)
one_fault bytes (Version v) (ShortRecords m w) f g = absurd (not_version bytes v f g.0)
one_fault bytes (Count c) (ShortHeader m) f g = absurd (not_short bytes m g f.0)
one_fault bytes (Count c) (Version u) f g = absurd (not_version bytes u g f.1)
one_fault bytes (Count c) (Count d) f g = ap (λ (n : ℕ). Count n) (f.2 ∙ sym g.2)
one_fault bytes (Count c) (ShortRecords m w) f g = absurd (not_count bytes c f g.1 g.2)
one_fault bytes (ShortRecords l v) (ShortHeader m) f g = absurd (not_short bytes m g (header_there bytes l v f))
one_fault bytes (ShortRecords l v) (Version u) f g = absurd (not_version bytes u g f.0)
one_fault bytes (ShortRecords l v) (Count d) f g = absurd (not_count bytes d g f.1 f.2)
one_fault bytes (ShortRecords l v) (ShortRecords m w) f g =
    let left : l ≡ m = omega (arith, f.3, g.3) in
    ap₂ (λ (n k : ℕ). ShortRecords n k) left (f.4 ∙ sym g.4)

-- where one well-formed front is the longest, no other ends elsewhere
one_place : (bytes : List ℕ) (o p : ℕ) (c d : Malformed) → IsBad bytes o c → IsBad bytes p d → (o ≡ p) ⊎ ((o < p) ⊎ (p < o)) → o ≡ p
one_place bytes o p c d f g (inl same) = same
one_place bytes o p c d f g (inr (inl less)) = absurd (f.longest p less (omega (arith, g.within)) g.prefix)
one_place bytes o p c d f g (inr (inr more)) = absurd (g.longest o more (omega (arith, f.within)) f.prefix)

-- bytes go bad at one place, for one fault
pub one_bad : (bytes : List ℕ) (o p : ℕ) (c d : Malformed) → IsBad bytes o c → IsBad bytes p d → (o ≡ p) × (c ≡ d)
one_bad bytes o p c d f g =
    let same = one_place bytes o p c d f g (cases_order o p) in
    (same, one_fault (drop p bytes) c d (subst (λ (k : ℕ). IsFault (drop k bytes) c) same f.first) g.first)
