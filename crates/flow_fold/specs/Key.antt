-- The order of keys.
use Rattle.std.specs.Ordering.{nat_cmp, ordering_then}
use Rattle.std.specs.declared.cmp.Ordering.{Ordering}
use Rattle.flow_fold.specs.declared.key.Key.{Key}

-- by k0, and then by k1
abbrev pub key_cmp : Key → Key → Ordering
key_cmp a b = ordering_then (nat_cmp a.k0 b.k0) (nat_cmp a.k1 b.k1)
