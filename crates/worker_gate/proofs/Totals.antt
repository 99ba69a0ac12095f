-- Sums over all views.
use Rattle.std.proofs.Common.{◌≡◌, ℕ, ◌+◌, ◌≤◌, List, [], ◌∷◌, ◌++◌, set, zero, suc, refl, ap, arith, inl, inr, ◌⊎◌}
use mathlib.Core.Option.{some}
use lib.ListN.{get_elem?}
use Rattle.worker_gate.specs.Rule.{total}
use Rattle.worker_gate.specs.declared.view.BatchView.{BatchView}

pub total_set : (f : BatchView → ℕ) (vs : List BatchView) (id : ℕ) (v w : BatchView) → get_elem? vs id ≡ some v → total f (set vs id w) + f v ≡ total f vs + f w
total_set f [] id v w e = cc
total_set f (x ∷ xs) zero v w e = let h : x ≡ v = cc in omega (arith, ap f h)
total_set f (x ∷ xs) (suc id) v w e = omega (arith, total_set f xs id v w e)

pub total_member : (f : BatchView → ℕ) (vs : List BatchView) (id : ℕ) (v : BatchView) → get_elem? vs id ≡ some v → f v ≤ total f vs
total_member f [] id v e = cc
total_member f (x ∷ xs) zero v e = let h : x ≡ v = cc in omega (arith, ap f h)
total_member f (x ∷ xs) (suc id) v e = omega (arith, total_member f xs id v e)

pub total_le : (f g : BatchView → ℕ) (vs : List BatchView) → ((id : ℕ) (v : BatchView) → get_elem? vs id ≡ some v → f v ≤ g v) → total f vs ≤ total g vs
total_le f g [] h = omega arith
total_le f g (x ∷ xs) h = omega (arith, h zero x refl, total_le f g xs (λ i v e. h (suc i) v e))

total_zero : (f g : BatchView → ℕ) (vs : List BatchView) → total g vs ≡ 0 → ((id : ℕ) (v : BatchView) → get_elem? vs id ≡ some v → g v ≡ 0 → f v ≡ 0) → total f vs ≡ 0
total_zero f g [] z h = refl
total_zero f g (x ∷ xs) z h =
    let a : f x ≡ 0 = h zero x refl (omega arith) in let b : total f xs ≡ 0 = total_zero f g xs (omega arith) (λ i v e. h (suc i) v e) in omega arith

-- where one view has all of g, and those with none of it have none of f, it has all of f
pub total_only : (f g : BatchView → ℕ) (vs : List BatchView) (id : ℕ) (v : BatchView) → get_elem? vs id ≡ some v → total g vs ≡ g v
    → ((j : ℕ) (u : BatchView) → get_elem? vs j ≡ some u → g u ≡ 0 → f u ≡ 0) → total f vs ≡ f v
total_only f g [] id v e t h = cc
total_only f g (x ∷ xs) zero v e t h = let i : x ≡ v = cc in let b : total f xs ≡ 0 = total_zero f g xs (omega (arith, ap g i)) (λ j u k. h (suc j) u k) in omega (arith, ap f i)
total_only f g (x ∷ xs) (suc id) v e t h =
    let m : g v ≤ total g xs = total_member g xs id v e in
    let a : f x ≡ 0 = h zero x refl (omega arith) in
    let b : total f xs ≡ f v = total_only f g xs id v e (omega arith) (λ j u k. h (suc j) u k) in omega arith

pub total_push : (f : BatchView → ℕ) (vs : List BatchView) (w : BatchView) → total f (vs ++ w ∷ []) ≡ total f vs + f w
total_push f [] w = omega arith
total_push f (x ∷ xs) w = omega (arith, total_push f xs w)

pub at_end : (l : List BatchView) (a b : BatchView) (j : ℕ) → get_elem? (l ++ a ∷ []) j ≡ some b → (get_elem? l j ≡ some b) ⊎ (a ≡ b)
at_end [] a b zero e = inr (mathlib.Core.Option.some-injective a b e)
at_end [] a b (suc j) e = cc
at_end (x ∷ xs) a b zero e = inl e
at_end (x ∷ xs) a b (suc j) e = at_end xs a b j e
