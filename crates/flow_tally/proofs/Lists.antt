-- An element of a list, and the list up to it.
use Rattle.std.specs.Prelude.{slice_get, map}
use Rattle.std.proofs.Common.{◌≡◌, ◌∙◌, ℕ, zero, suc, ◌+◌, ◌<◌, Some, List, [], ◌∷◌, ◌++◌, length, take, get_or, refl, sym, ap, arith, add-one}
use Rattle.std.proofs.lemmas.List.{length-append}

take_suc_get : {X : Type 0} (xs : List X) (i : ℕ) (x : X) → slice_get xs i ≡ Some x → take (suc i) xs ≡ take i xs ++ x ∷ []
take_suc_get [] i x is = absurd (cc)
take_suc_get (y ∷ ys) zero x is = let same : y ≡ x = cc is in ap (λ z. z ∷ []) same
take_suc_get (y ∷ ys) (suc i) x is = ap (λ zs. y ∷ zs) (take_suc_get ys i x is)

-- the first elements with one more
pub take_get : {X : Type 0} (xs : List X) (i : ℕ) (x : X) → slice_get xs i ≡ Some x → take (i + 1) xs ≡ take i xs ++ x ∷ []
take_get xs i x is = ap (λ (k : ℕ). take k xs) (add-one i) ∙ take_suc_get xs i x is

pub length-take_get : {X : Type 0} (xs : List X) (i : ℕ) (x : X) → slice_get xs i ≡ Some x → length (take (i + 1) xs) ≡ length (take i xs) + 1
length-take_get xs i x is = ap length (take_get xs i x is) ∙ length-append (take i xs) (x ∷ [])

-- what stands at a place of a mapped list
pub get-map : {X Y : Type 0} (f : X → Y) (xs : List X) (i : ℕ) (x : X) → i < length xs → x ≡ get_or xs i x → slice_get (map f xs) i ≡ Some (f x)
get-map f [] i x lt is = absurd (omega arith)
get-map f (y ∷ ys) zero x lt is = ap (λ z. Some (f z)) (sym is)
get-map f (y ∷ ys) (suc i) x lt is = get-map f ys i x (omega arith) is

pub get-get_or : {X : Type 0} (xs : List X) (i : ℕ) (d : X) → i < length xs → slice_get xs i ≡ Some (get_or xs i d)
get-get_or [] i d lt = absurd (omega arith)
get-get_or (x ∷ xs) zero d lt = refl
get-get_or (x ∷ xs) (suc i) d lt = get-get_or xs i d (omega arith)
