-- Two lists side by side.
use Rattle.std.specs.List.{AllZip}
use Rattle.std.proofs.Common.{◌≡◌, ℕ, zero, suc, ◌<◌, List, [], ◌∷◌, ◌++◌, length, take, get_or, refl, ap, arith}
use Rattle.std.proofs.Math.Decide.{map_dec}
use Rattle.call_script.proofs.Decisions.{both_dec}

module _ {A B : Type 0} (R : A → B → Type 0) where
  pub zip_length : (xs : List A) (ys : List B) → AllZip R xs ys → length xs ≡ length ys
  zip_length [] [] h = refl
  zip_length [] (y ∷ ys) h = absurd h
  zip_length (x ∷ xs) [] h = absurd h
  zip_length (x ∷ xs) (y ∷ ys) h = ap suc (zip_length xs ys h.1)

  pub zip_at : (xs : List A) (ys : List B) (i : ℕ) (d : A) (e : B) → AllZip R xs ys → i < length xs → R (get_or xs i d) (get_or ys i e)
  zip_at [] ys i d e h lt = absurd (omega arith)
  zip_at (x ∷ xs) [] i d e h lt = absurd h
  zip_at (x ∷ xs) (y ∷ ys) zero d e h lt = h.0
  zip_at (x ∷ xs) (y ∷ ys) (suc i) d e h lt = zip_at xs ys i d e h.1 (omega arith)

  pub zip_take : (xs : List A) (ys : List B) (i : ℕ) → AllZip R xs ys → AllZip R (take i xs) (take i ys)
  zip_take xs ys zero h = tt
  zip_take [] [] (suc i) h = tt
  zip_take [] (y ∷ ys) (suc i) h = absurd h
  zip_take (x ∷ xs) [] (suc i) h = absurd h
  zip_take (x ∷ xs) (y ∷ ys) (suc i) h = (h.0, zip_take xs ys i h.1)

  pub zip_push : (xs : List A) (ys : List B) (x : A) (y : B) → AllZip R xs ys → R x y → AllZip R (xs ++ x ∷ []) (ys ++ y ∷ [])
  zip_push [] [] x y h r = (r, tt)
  zip_push [] (b ∷ ys) x y h r = absurd h
  zip_push (a ∷ xs) [] x y h r = absurd h
  zip_push (a ∷ xs) (b ∷ ys) x y h r = (h.0, zip_push xs ys x y h.1 r)

  -- where R gives at most one, so do the lists
  pub zip_one : ((x : A) (y z : B) → R x y → R x z → y ≡ z) → (xs : List A) (ys zs : List B) → AllZip R xs ys → AllZip R xs zs → ys ≡ zs
  zip_one one [] [] [] h k = refl
  zip_one one [] [] (z ∷ zs) h k = absurd k
  zip_one one [] (y ∷ ys) zs h k = absurd h
  zip_one one (x ∷ xs) [] zs h k = absurd h
  zip_one one (x ∷ xs) (y ∷ ys) [] h k = absurd k
  zip_one one (x ∷ xs) (y ∷ ys) (z ∷ zs) h k = λ i. one x y z h.0 k.0 i ∷ zip_one one xs ys zs h.1 k.1 i

  -- where R is decided, a list beside a list is
  pub zip_dec : ((x : A) → Dec ((y : B) × R x y)) → (xs : List A) → Dec ((ys : List B) × AllZip R xs ys)
  zip_dec each [] = yes ([], tt)
  zip_dec each (x ∷ xs) = map_dec (λ both. (both.0.0 ∷ both.1.0, (both.0.1, both.1.1))) (λ all. first_apart all.0 all.1) (both_dec (each x) (zip_dec each xs))
    where
      first_apart : (ys : List B) → AllZip R (x ∷ xs) ys → ((y : B) × R x y) × ((zs : List B) × AllZip R xs zs)
      first_apart [] h = absurd h
      first_apart (y ∷ ys) h = ((y, h.0), (ys, h.1))
