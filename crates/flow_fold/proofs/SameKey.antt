-- The order of keys tells each key from every other.
use Rattle.std.proofs.Common.{◌≡◌, ℕ, true, ap, subst, Decides}
use Rattle.std.specs.Ordering.{nat_cmp}
use Rattle.std.specs.BTreeMap.{is_at}
use Rattle.std.specs.Cmp.{IsTotalOrder, Equal-is, eq_by_cmp_equiv, on_total, nat_cmp_total}
use Rattle.std.proofs.lemmas.Cmp.{then_total}
use Rattle.std.proofs.lemmas.Map.Lookups.{CmpEqualImpliesEq, exact_pairs, exact_unsigned}
use Rattle.flow_fold.specs.Key.{key_cmp}
use Rattle.flow_fold.specs.declared.key.Key.{Key}

-- keys are in a total order
pub key_cmp_total : IsTotalOrder key_cmp
key_cmp_total = then_total (on_total (λ (k : Key). k.k0) nat_cmp_total) (on_total (λ (k : Key). k.k1) nat_cmp_total)

-- keys that compare alike are one
pub exact_keys : CmpEqualImpliesEq key_cmp
exact_keys a b h = ap (λ (p : ℕ × ℕ). record { k0 = p.0; k1 = p.1 }) (exact_pairs nat_cmp nat_cmp exact_unsigned exact_unsigned (a.k0, a.k1) (b.k0, b.k1) h)

-- a key is at another exactly if they are one
pub same_key : (a b : Key) → Decides (is_at (key_cmp a) b) (a ≡ b)
same_key a b = (λ h. exact_keys a b ((Equal-is (key_cmp a b)).0 h), λ e. subst (λ (k : Key). is_at (key_cmp a) k ≡ true) e ((eq_by_cmp_equiv key_cmp_total).refl a))
