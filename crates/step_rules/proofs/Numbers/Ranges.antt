-- Numbers counted up.
use Rattle.std.proofs.Common.{◌≡◌, ◌∙◌, ℕ, ◌+◌, zero, suc, [], ◌∷◌, ◌++◌, ap, sym, arith}
use Rattle.step_rules.specs.Views.{count_up}

pub count_parts : (m a b : ℕ) → count_up m (a + b) ≡ count_up m a ++ count_up (m + a) b
count_parts m zero b = (λ i. count_up m (none i)) ∙ (λ i. count_up (start i) b)
  where
    none : zero + b ≡ b
    none = omega arith

    start : m ≡ m + zero
    start = omega arith
count_parts m (suc a) b = (λ i. count_up m (one i)) ∙ ap (λ l. m ∷ l) (count_parts (suc m) a b ∙ (λ i. count_up (suc m) a ++ count_up (start i) b))
  where
    one : suc a + b ≡ suc (a + b)
    one = omega arith

    start : suc m + a ≡ m + suc a
    start = omega arith

-- one more: node is the next number
pub count_next : (m n node : ℕ) → node ≡ m + n → count_up m n ++ node ∷ [] ≡ count_up m (n + 1)
count_next m n node e = sym (count_parts m n 1 ∙ (λ i. count_up m n ++ sym e i ∷ []))
