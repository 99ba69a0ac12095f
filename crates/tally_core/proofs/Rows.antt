-- The draws of workers by rising number, and each worker's among them.
use Rattle.std.proofs.Common.{◌≡◌, ◌≢◌, ◌∙◌, ℕ, ◌<◌, ◌≤◌, ◌||◌, suc, zero, true, false, cond}
use Rattle.std.proofs.Common.{eqb, eq-eqb, ne_eqb, List, [], ◌∷◌, ◌++◌, append-nil, length, refl, ap, arith, ⊎_elim}
use Rattle.std.proofs.lemmas.Bool.{cases_eq}
use Rattle.std.proofs.lemmas.List.Elements.{filter-append}
use mathlib.Core.List.{map-append}
use Rattle.flow_fold.specs.Flows.{Flows}
use Rattle.step_rules.specs.SeatData.{ObjectData}
use Rattle.tally_core.specs.Drawing.{Drawer, any_ended, drawn_by}
use Rattle.tally_core.specs.Draws.{batches_in, draws_below, draws_by}
use Rattle.tally_core.specs.Tallying.{HaveWorked, full_at, joined}
use Rattle.tally_core.specs.declared.draws.Draw.{Draw}
use Rattle.worker_gate.specs.Seats.{BatchesData}

-- a worker's draws are of the batches that it drew
pub batches_of_one : (w : ℕ) (drawn : List ℕ) → batches_in (drawn_by w drawn) ≡ drawn
batches_of_one w [] = refl
batches_of_one w (x ∷ drawn) = ap (λ l. x ∷ l) (batches_of_one w drawn)

abbrev pub all_draws : ℕ → (ℕ → List ℕ) → List Draw
all_draws n drawn = joined n (λ w. drawn_by w (drawn w))

pub batches_joined : (n : ℕ) (drawn : ℕ → List ℕ) → batches_in (all_draws n drawn) ≡ joined n drawn
batches_joined zero drawn = refl
batches_joined (suc n) drawn = map-append (λ (d : Draw). d.batch) (all_draws n drawn) (drawn_by n (drawn n)) ∙ (λ i. batches_joined n drawn i ++ batches_of_one n (drawn n) i)

own_draws : (w : ℕ) (drawn : List ℕ) → draws_by w (drawn_by w drawn) ≡ drawn_by w drawn
own_draws w [] = refl
own_draws w (x ∷ drawn) =
    let d : Draw = record { worker = w; batch = x } in
    ap (λ b. cond b (d ∷ draws_by w (drawn_by w drawn)) (draws_by w (drawn_by w drawn))) (eq-eqb w w refl) ∙ ap (λ l. d ∷ l) (own_draws w drawn)

no_draws : (v w : ℕ) (drawn : List ℕ) → v ≢ w → draws_by w (drawn_by v drawn) ≡ []
no_draws v w [] other = refl
no_draws v w (x ∷ drawn) other =
    let d : Draw = record { worker = v; batch = x } in
    ap (λ b. cond b (d ∷ draws_by w (drawn_by v drawn)) (draws_by w (drawn_by v drawn))) (ne_eqb v w other) ∙ no_draws v w drawn other

none_before : (n : ℕ) (drawn : ℕ → List ℕ) (w : ℕ) → n ≤ w → draws_by w (all_draws n drawn) ≡ []
none_before zero drawn w beyond = refl
none_before (suc n) drawn w beyond =
    filter-append (λ (d : Draw). eqb d.worker w) (all_draws n drawn) (drawn_by n (drawn n))
    ∙ (λ i. none_before n drawn w (omega arith) i ++ no_draws n w (drawn n) (λ e. absurd (omega (arith, e, beyond))) i)

-- among all workers' draws a worker's are its own
pub by_joined : (n : ℕ) (drawn : ℕ → List ℕ) (w : ℕ) → w < n → draws_by w (all_draws n drawn) ≡ drawn_by w (drawn w)
by_joined zero drawn w below = absurd (omega arith)
by_joined (suc n) drawn w below = filter-append (λ (d : Draw). eqb d.worker w) (all_draws n drawn) (drawn_by n (drawn n)) ∙ ⊎_elim
    (λ e. (λ i. none_before n drawn w (omega (arith, e)) i ++ draws_by w (drawn_by (e i) (drawn (e i)))) ∙ own_draws w (drawn w))
    (λ ne. (λ i. by_joined n drawn w (omega (arith, ne, below)) i ++ no_draws n w (drawn n) ne i) ∙ append-nil (drawn_by w (drawn w)))
    (cases_eq n w)

below_first : (n m : ℕ) (drawn : ℕ → List ℕ) → n ≤ m → draws_below n (all_draws m drawn) ≡ all_draws n drawn
below_first zero m drawn within = refl
below_first (suc n) m drawn within = λ i. below_first n m drawn (omega arith) i ++ by_joined m drawn n (omega arith) i

-- they stand by rising worker
pub below_joined : (n : ℕ) (drawn : ℕ → List ℕ) → draws_below n (all_draws n drawn) ≡ all_draws n drawn
below_joined n drawn = below_first n n drawn (omega arith)

-- where none was answered Full, one was told that no batch is left
pub first_ended : {shared : ObjectData} {batches : BatchesData} {pairs : Flows} (drawers : List Drawer) → HaveWorked shared batches pairs drawers → ((w : ℕ) → full_at drawers w ≡ false)
    → 0 < length drawers → any_ended drawers ≡ true
first_ended [] worked none long = absurd (omega (arith, long))
first_ended (first ∷ later) worked none long = ap (λ b. b || any_ended later) ((worked 0 first long).ended (none 0))
