-- The bits of numbers together.
use Rattle.std.specs.Int.{bit_at}
use Rattle.std.specs.Int.Bits.{bit_or}
use Rattle.std.specs.List.{Any}
use Rattle.std.specs.List.Sorted.{IsPermutation}
use Rattle.std.proofs.Common.{◌≡◌, ◌∙◌, ◌⊎◌, ℕ, zero, suc, ◌<◌, List, [], ◌∷◌, ◌++◌, Contains, max, inl, inr, ap, sym, refl, ⊎_elim, arith}
use Rattle.std.proofs.lemmas.List.Elements.{Contains-append_left, Contains-push, Contains-push_cases}
use Rattle.std.proofs.lemmas.List.Sorted.{Contains-permutation, IsPermutation-sym}
use Rattle.std.proofs.lemmas.Nat.Bits.{bit_at-lt, bit_at_or, same_from_bits}
use Rattle.flow_fold.specs.Fold.{HasBitsOf}

-- joining goes by bits, and so in any grouping
pub or_assoc : (a b c : ℕ) → bit_or (bit_or a b) c ≡ bit_or a (bit_or b c)
or_assoc a b c = same_from_bits _ _ (λ i.
    omega (arith, bit_at_or (bit_or a b) c i, bit_at_or a b i, bit_at_or a (bit_or b c) i, bit_at_or b c i))

-- some number of a list has the bit
abbrev SomeHas : ℕ → List ℕ → Type 0
SomeHas i ns = Any (λ m. bit_at m i ≡ 1) ns

some_has : (i : ℕ) (ns : List ℕ) (m : ℕ) → Contains ns m → bit_at m i ≡ 1 → SomeHas i ns
some_has i ns m c h = (c.0, m, c.1, c.2, h)

some_before : (i : ℕ) (ns : List ℕ) (m : ℕ) → SomeHas i ns → SomeHas i (ns ++ m ∷ [])
some_before i ns m a = some_has i (ns ++ m ∷ []) a.1 (Contains-append_left ns (m ∷ []) a.1 (a.0, a.2, a.3)) a.4

some_pushed : (i : ℕ) (ns : List ℕ) (m : ℕ) → SomeHas i (ns ++ m ∷ []) → SomeHas i ns ⊎ (bit_at m i ≡ 1)
some_pushed i ns m a =
    ⊎_elim (λ c. inl (some_has i ns a.1 c a.4)) (λ e. inr (ap (λ z. bit_at z i) e ∙ a.4)) (Contains-push_cases ns m a.1 (a.0, a.2, a.3))

one_of_two : (a b : ℕ) → max a b ≡ 1 → a < 2 → b < 2 → (a ≡ 1) ⊎ (b ≡ 1)
one_of_two zero b e p q = inr (omega arith)
one_of_two (suc zero) b e p q = inl refl
one_of_two (suc (suc a)) b e p q = absurd (omega arith)

-- one number has its own bits
pub bits_alone : (n : ℕ) → HasBitsOf n (n ∷ [])
bits_alone n = record { bits = λ i. (λ h. some_has i (n ∷ []) n (Contains-push [] n) h, own i) }
  where
    own : (i : ℕ) → SomeHas i (n ∷ []) → bit_at n i ≡ 1
    own i a = ⊎_elim (λ (none : SomeHas i []). absurd (omega (arith, none.2))) (λ h. h) (some_pushed i [] n a)

-- one number more is joined
pub bits_push : (ns : List ℕ) (n m : ℕ) → HasBitsOf n ns → HasBitsOf (bit_or n m) (ns ++ m ∷ [])
bits_push ns n m has = record { bits = λ i. (given i, taken i) }
  where
    given : (i : ℕ) → bit_at (bit_or n m) i ≡ 1 → SomeHas i (ns ++ m ∷ [])
    given i h = ⊎_elim
        (λ old. some_before i ns m ((has.bits i).0 old))
        (λ new. some_has i (ns ++ m ∷ []) m (Contains-push ns m) new)
        (one_of_two (bit_at n i) (bit_at m i) (sym (bit_at_or n m i) ∙ h) (bit_at-lt n i) (bit_at-lt m i))

    taken : (i : ℕ) → SomeHas i (ns ++ m ∷ []) → bit_at (bit_or n m) i ≡ 1
    taken i a = ⊎_elim
        (λ old. omega (arith, (has.bits i).1 old, bit_at_or n m i, bit_at-lt m i))
        (λ (new : bit_at m i ≡ 1). omega (arith, bit_at_or n m i, bit_at-lt n i))
        (some_pushed i ns m a)

some_permuted : (i : ℕ) (ns ms : List ℕ) → IsPermutation ns ms → SomeHas i ns → SomeHas i ms
some_permuted i ns ms p a = some_has i ms a.1 (Contains-permutation _ _ _ p (a.0, a.2, a.3)) a.4

-- the same numbers in another order have the same bits
pub bits_permutation : (ns ms : List ℕ) (n : ℕ) → IsPermutation ns ms → HasBitsOf n ns → HasBitsOf n ms
bits_permutation ns ms n p has = record {
  bits = λ i. (λ h. some_permuted i ns ms p ((has.bits i).0 h), λ a. (has.bits i).1 (some_permuted i ms ns (IsPermutation-sym _ _ p) a));
}

same_bit : (a b : ℕ) → a < 2 → b < 2 → (a ≡ 1 → b ≡ 1) → (b ≡ 1 → a ≡ 1) → a ≡ b
same_bit zero zero p q f g = refl
same_bit zero (suc b) p q f g = let one : suc b ≡ 1 = omega arith in g one ∙ sym one
same_bit (suc a) b p q f g = let one : suc a ≡ 1 = omega arith in one ∙ sym (f one)

-- numbers have one join
pub bits_unique : (ns : List ℕ) (n m : ℕ) → HasBitsOf n ns → HasBitsOf m ns → n ≡ m
bits_unique ns n m a b = same_from_bits n m (λ i.
    same_bit (bit_at n i) (bit_at m i) (bit_at-lt n i) (bit_at-lt m i) (λ h. (b.bits i).1 ((a.bits i).0 h)) (λ h. (a.bits i).1 ((b.bits i).0 h)))
