-- What stands at a place of a list.
use Rattle.std.proofs.Common.{◌≡◌, ℕ, ◌+◌, ◌<◌, suc, zero, List, [], ◌∷◌, ◌++◌, length, take, get_or, refl, sym, ap, arith, ◌⊎◌, inl, inr, ⊎_elim}
use mathlib.Core.Option.{some, some-injective, some-ne-none}
use lib.ListN.{get_elem?}

pub at_below : {A : Type 0} (l : List A) (i : ℕ) (a : A) → get_elem? l i ≡ some a → i < length l
at_below [] i a e = absurd (some-ne-none a (sym e))
at_below (x ∷ xs) zero a e = omega arith
at_below (x ∷ xs) (suc i) a e = let h = at_below xs i a e in omega arith

-- each place below the length has something
pub at_there : {A : Type 0} (l : List A) (i : ℕ) (d : A) → i < length l → get_elem? l i ≡ some (get_or l i d)
at_there [] i d h = absurd (omega arith)
at_there (x ∷ xs) zero d h = refl
at_there (x ∷ xs) (suc i) d h = at_there xs i d (omega arith)

-- what stands at a place is what is read there
pub there_at : {A : Type 0} (l : List A) (i : ℕ) (a d : A) → get_elem? l i ≡ some a → get_or l i d ≡ a
there_at [] i a d e = absurd (some-ne-none a (sym e))
there_at (x ∷ xs) zero a d e = some-injective x a e
there_at (x ∷ xs) (suc i) a d e = there_at xs i a d e

-- what stands in the first n stands in the list
pub at_take : {A : Type 0} (l : List A) (n i : ℕ) (a : A) → get_elem? (take n l) i ≡ some a → get_elem? l i ≡ some a
at_take [] zero i a e = e
at_take [] (suc n) i a e = e
at_take (x ∷ xs) zero i a e = absurd (some-ne-none a (sym e))
at_take (x ∷ xs) (suc n) zero a e = e
at_take (x ∷ xs) (suc n) (suc i) a e = at_take xs n i a e

-- the first places up to one that is there
pub take_to : {A : Type 0} (l : List A) (i : ℕ) (a : A) → get_elem? l i ≡ some a → take (suc i) l ≡ take i l ++ a ∷ []
take_to [] i a e = absurd (some-ne-none a (sym e))
take_to (x ∷ xs) zero a e = ap (λ y. y ∷ []) (some-injective x a e)
take_to (x ∷ xs) (suc i) a e = ap (λ l. x ∷ l) (take_to xs i a e)

-- an element of two lists in a row stands in the first, or after it in the second
pub at_append : {A : Type 0} (l m : List A) (i : ℕ) (a : A) → get_elem? (l ++ m) i ≡ some a → (get_elem? l i ≡ some a) ⊎ ((k : ℕ) × (i ≡ length l + k) × (get_elem? m k ≡ some a))
at_append [] m i a e = inr (i, omega arith, e)
at_append (x ∷ xs) m zero a e = inl e
at_append (x ∷ xs) m (suc i) a e = ⊎_elim (λ h. inl h) (λ h. let k : ℕ = h.0 in let q : i ≡ length xs + k = h.1 in inr (k, omega arith, h.2)) (at_append xs m i a e)

-- what stands in the second of two lists in a row
pub at_behind : {A : Type 0} (l m : List A) (i : ℕ) (a : A) → get_elem? m i ≡ some a → (j : ℕ) × (get_elem? (l ++ m) j ≡ some a)
at_behind [] m i a e = (i, e)
at_behind (x ∷ xs) m i a e = let r = at_behind xs m i a e in (suc r.0, r.1)

-- an element of a longer list is one of the list, or the last
pub at_more : {A : Type 0} (l : List A) (a b : A) (j : ℕ) → get_elem? (l ++ a ∷ []) j ≡ some b → ((j < length l) × (get_elem? l j ≡ some b)) ⊎ ((j ≡ length l) × (a ≡ b))
at_more [] a b zero e = inr (refl, some-injective a b e)
at_more [] a b (suc j) e = absurd (some-ne-none b (sym e))
at_more (x ∷ xs) a b zero e = inl (omega arith, e)
at_more (x ∷ xs) a b (suc j) e = ⊎_elim (λ t. let l = t.0 in inl (omega arith, t.1)) (λ t. inr (ap suc t.0, t.1)) (at_more xs a b j e)
