-- What a filter keeps of a list in another order.
use Rattle.std.proofs.Common.{ℕ, zero, suc, ◌<◌, Bool, true, false, cond, List, [], ◌∷◌, length, get_or, set, sym, subst, arith}
use Rattle.std.specs.List.{filter, swap}
use Rattle.std.specs.List.Sorted.{IsPermutation}
use Rattle.std.proofs.lemmas.List.Edits.{swap_is}
use Rattle.std.proofs.lemmas.List.Sorted.{IsPermutation-refl, IsPermutation-cons, IsPermutation-middle, IsPermutation-trans, IsPermutation-keeps}

firsts : {X : Type 0} (b c : Bool) (x y : X) (zs : List X) → IsPermutation (cond b (x ∷ cond c (y ∷ zs) zs) (cond c (y ∷ zs) zs)) (cond c (y ∷ cond b (x ∷ zs) zs) (cond b (x ∷ zs) zs))
firsts true true x y zs = IsPermutation-middle (x ∷ []) y zs
firsts true false x y zs = IsPermutation-refl (x ∷ zs)
firsts false true x y zs = IsPermutation-refl (y ∷ zs)
firsts false false x y zs = IsPermutation-refl zs

after_one : {X : Type 0} (b : Bool) (x : X) (xs ys : List X) → IsPermutation xs ys → IsPermutation (cond b (x ∷ xs) xs) (cond b (x ∷ ys) ys)
after_one true x xs ys h = IsPermutation-cons x xs ys h
after_one false x xs ys h = h

module _ {X : Type 0} (p : X → Bool) where
  -- the first element in another's place, and that one first
  exchanged : (x : X) (ys : List X) (k : ℕ) → k < length ys → IsPermutation (filter p (x ∷ ys)) (filter p (get_or ys k x ∷ set ys k x))
  exchanged x [] k below = absurd (omega arith)
  exchanged x (y ∷ ys) zero below = firsts (p x) (p y) x y (filter p ys)
  exchanged x (y ∷ ys) (suc k) below =
      IsPermutation-trans _ _ _ (firsts (p x) (p y) x y (filter p ys))
      (IsPermutation-trans _ _ _ (after_one (p y) y _ _ (exchanged x ys k (omega arith)))
      (firsts (p y) (p (get_or ys k x)) y (get_or ys k x) (filter p (set ys k x))))

  swapped : (xs : List X) (i j : ℕ) → i < length xs → j < length xs → IsPermutation (filter p xs) (filter p (swap xs i j))
  swapped [] i j in_i in_j = absurd (omega arith)
  swapped (x ∷ ys) zero zero in_i in_j = IsPermutation-refl _
  swapped (x ∷ ys) zero (suc j) in_i in_j = exchanged x ys j (omega arith)
  swapped (x ∷ ys) (suc i) zero in_i in_j = exchanged x ys i (omega arith)
  swapped (x ∷ ys) (suc i) (suc j) in_i in_j =
      let at_i : i < length ys = omega arith in
      let at_j : j < length ys = omega arith in
      subst (λ (zs : List X). IsPermutation (filter p (x ∷ ys)) (filter p (x ∷ zs))) (sym (swap_is ys i j x at_i at_j))
      (after_one (p x) x _ _ (swapped ys i j at_i at_j))

  -- the same elements pass, in another order
  pub IsPermutation-filter : (xs ys : List X) → IsPermutation xs ys → IsPermutation (filter p xs) (filter p ys)
  IsPermutation-filter xs ys h =
      IsPermutation-keeps xs (λ zs. IsPermutation (filter p xs) (filter p zs)) (IsPermutation-refl _)
      (λ zs i j in_i in_j so_far. IsPermutation-trans _ _ _ so_far (swapped zs i j in_i in_j)) ys h
