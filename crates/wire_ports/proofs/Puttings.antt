-- One more write, offered all bytes that are left.
use Rattle.std.proofs.Common.{ℕ, ◌+◌, List, [], ◌∷◌, ◌++◌, drop, refl, ap, subst, Ok}
use Rattle.wire_ports.specs.Putting.{Writes, OffersAll}

pub offers_more : {Sink : Type 0} (writes : Writes Sink) (bytes counts : List ℕ) (from at n : ℕ) (old next new : Sink) → OffersAll writes bytes counts from old at next
    → writes next (drop at bytes) (Ok n) new → OffersAll writes bytes (counts ++ n ∷ []) from old (at + n) new
offers_more {Sink} writes bytes [] from at n old next new before one =
    (new, subst (λ (p : ℕ × Sink). writes p.1 (drop p.0 bytes) (Ok n) new) (λ i. (before.0 i, before.1 i)) one, (ap (λ (k : ℕ). k + n) before.0, refl))
offers_more writes bytes (m ∷ counts) from at n old next new before one = (before.0, before.1, offers_more writes bytes counts (from + m) at n before.0 next new before.2 one)
