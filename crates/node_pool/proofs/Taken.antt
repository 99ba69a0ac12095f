-- A node that was taken.
use Rattle.std.proofs.Common.{◌≡◌, ℕ, true, false, eqb, eq-eqb, List, [], ◌∷◌, ◌++◌, refl, subst, sym}
use Rattle.std.proofs.lemmas.Bool.{or_left}
use Rattle.node_pool.specs.Pool.{IsTaken}
use Rattle.step_rules.proofs.Numbers.Sets.{has_right}
use Rattle.step_rules.specs.SeatData.{SeatData}
use Rattle.step_rules.specs.World.{has}

pub has_added : (xs : List ℕ) (n : ℕ) → has (xs ++ n ∷ []) n ≡ true
has_added xs n = has_right xs (n ∷ []) n (or_left (eqb n n) false (eq-eqb n n refl))

pub taken_held : {node : ℕ} {before taken : SeatData} → IsTaken node before taken → has taken.holding node ≡ true
taken_held {node} {before} t = subst (λ (l : List ℕ). has l node ≡ true) (sym t.holding) (has_added before.holding node)
