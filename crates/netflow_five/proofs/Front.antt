-- A field of a front of the bytes is the bytes' own.
use Rattle.std.proofs.Common.{◌≡◌, ℕ, ◌+◌, ◌≤◌, List, ◌++◌, length, take, drop, refl, sym, ap, ◌∙◌, arith}
use Rattle.std.proofs.lemmas.List.{take-append-le, drop-append-le, length-drop, length-take, take-append-drop}
use Rattle.netflow_five.specs.Field.{number, field}

pub take_drop_append : (at n : ℕ) (xs ys : List ℕ) → at + n ≤ length xs → take n (drop at (xs ++ ys)) ≡ take n (drop at xs)
take_drop_append at n xs ys le =
    let a : at ≤ length xs = omega arith in
    let b : n ≤ length (drop at xs) = omega (arith, length-drop at xs) in
    rw (drop-append-le at xs ys a, take-append-le n (drop at xs) ys b) refl

-- what follows does not change a field
pub field_append : (at n : ℕ) (xs ys : List ℕ) → at + n ≤ length xs → field at n (xs ++ ys) ≡ field at n xs
field_append at n xs ys le = ap number (take_drop_append at n xs ys le)

pub field_front : (at n k : ℕ) (xs : List ℕ) → at + n ≤ k → k ≤ length xs → field at n (take k xs) ≡ field at n xs
field_front at n k xs le len =
    let b : at + n ≤ length (take k xs) = omega (arith, length-take k xs) in
    sym (field_append at n (take k xs) (drop k xs) b) ∙ ap (λ (zs : List ℕ). field at n zs) (take-append-drop k xs)
