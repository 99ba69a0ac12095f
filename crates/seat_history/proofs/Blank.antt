-- Lists of one thing.
use Rattle.std.proofs.Common.{◌≡◌, ℕ, zero, suc, refl, get_or, replicate}

-- past the end too
pub get_or_replicate_same : {X : Type 0} (n i : ℕ) (x : X) → get_or (replicate n x) i x ≡ x
get_or_replicate_same zero i x = refl
get_or_replicate_same (suc n) zero x = refl
get_or_replicate_same (suc n) (suc i) x = get_or_replicate_same n i x
