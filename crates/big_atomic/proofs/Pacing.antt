-- Claim rounds and exchanges, of steps in a row.
use Rattle.std.proofs.Common.{ℕ, ◌≤◌, List, ◌++◌, arith}
use Rattle.big_atomic.proofs.Paid.{AreStill, exchanges-append, lost-append, rounds-append, still_exchanges, still_rounds}
use Rattle.big_atomic.specs.Calling.{Paces}
use Rattle.step_rules.specs.declared.view.Counted.{Counted}

pub paces_then : {from mid to : ℕ} {a b : List Counted} → Paces from mid a → Paces mid to b → Paces from to (a ++ b)
paces_then {a} {b} p q =
    let first = p.rounds in
    let second = q.rounds in
    let first_tries = p.tries in
    let second_tries = q.tries in
    record { rounds = omega (arith, rounds-append a b, lost-append a b); tries = omega (arith, exchanges-append a b, lost-append a b) }

pub paces_within : {from to most : ℕ} {steps : List Counted} → Paces from to steps → to ≤ most → Paces from most steps
paces_within p low = let rounds = p.rounds in record { rounds = omega arith; tries = p.tries }

-- a claim serves on through still steps
pub paces_still : (claims : ℕ) (steps : List Counted) → AreStill steps → Paces claims claims steps
paces_still claims steps still = record { rounds = omega (arith, still_rounds steps still); tries = omega (arith, still_exchanges steps still) }
