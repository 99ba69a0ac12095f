-- What is put into a shelf adds up.
use Rattle.std.specs.Prelude.{ℕ, ◌+◌}
use Rattle.std.proofs.Math.Nat.{add_assoc, add_comm, zero-add}
use Rattle.big_atomic.specs.Sums.{Adding}

-- how much was put in, and how often
abbrev pub shelf : Adding (ℕ × ℕ)
shelf = record {
  none = (0, 0);
  add = λ a b. (a.0 + b.0, a.1 + b.1);
  none_left = λ a i. (zero-add a.0 i, zero-add a.1 i);
  swapped = λ a b i. (add_comm a.0 b.0 i, add_comm a.1 b.1 i);
  grouped = λ a b c i. (add_assoc a.0 b.0 c.0 i, add_assoc a.1 b.1 c.1 i);
}
