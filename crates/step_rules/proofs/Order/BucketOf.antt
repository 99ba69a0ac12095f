-- Keys' cells are there.
use Rattle.std.proofs.Common.{◌≡◌, ℕ, ◌+◌, ◌*◌, ◌/◌, ◌%◌, ◌^◌, ◌<◌, mod-lt, arith}
use Rattle.step_rules.specs.History.{bucket_of, key_cell}
use Rattle.step_rules.specs.Layout.{cells}
use Rattle.step_rules.specs.declared.plan.Plan.{Plan}

pub bucket_below : (buckets n : ℕ) → 0 < buckets → bucket_of buckets n < buckets
unfolding bucket_of
bucket_below buckets n some = mod-lt _ some

pub key_there : (p : Plan) (n : ℕ) → 0 < p.buckets → key_cell p n < cells p
key_there p n some = let b = bucket_below p.buckets n some in omega arith

-- the words of a key from its number
pub high_word : (a b : ℕ) → b < 2 ^ 64 → (a * 2 ^ 64 + b) / 2 ^ 64 ≡ a
high_word a b lt = omega arith

pub low_word : (a b : ℕ) → b < 2 ^ 64 → (a * 2 ^ 64 + b) % 2 ^ 64 ≡ b
low_word a b lt = omega arith
