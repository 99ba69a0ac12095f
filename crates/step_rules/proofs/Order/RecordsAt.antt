-- The records of a cell, and the contents after the history.
use Rattle.std.proofs.Common.{◌≡◌, ◌∙◌, ℕ, cond, eqb, eq-eqb, ne_eqb, List, [], ◌∷◌, ◌++◌, take, drop, refl, sym, ap}
use Rattle.std.proofs.lemmas.Bool.{cond-true, cond-false}
use Rattle.std.proofs.lemmas.List.{take-append-drop}
use Rattle.seat_history.specs.declared.entry.Entry.{Entry}
use Rattle.step_rules.specs.History.{NoneOn, cell_of}
use Rattle.step_rules.specs.Records.{records_after, records_at, records_from, first_records}
use Rattle.step_rules.specs.declared.plan.Plan.{Plan}

pub records_from-append : (p : Plan) (k : ℕ) (rs : List (List ℕ)) (a b : List Entry) → records_from p k rs (a ++ b) ≡ records_from p k (records_from p k rs a) b
records_from-append p k rs [] b = refl
records_from-append p k rs (e ∷ a) b = records_from-append p k (cond (eqb (cell_of p e.call) k) (records_after rs e.call) rs) a b

-- entries on other cells leave the records
pub quiet_records : (p : Plan) (k : ℕ) (rs : List (List ℕ)) (es : List Entry) → NoneOn p k es → records_from p k rs es ≡ rs
quiet_records p k rs [] none = refl
quiet_records p k rs (e ∷ es) none = quiet_records p k (cond (eqb (cell_of p e.call) k) (records_after rs e.call) rs) es none.1
    ∙ cond-false (eqb (cell_of p e.call) k) (records_after rs e.call) rs (ne_eqb (cell_of p e.call) k none.0)

-- no entry on the cell since, the same records
pub same_records : (p : Plan) (log more : List Entry) (k : ℕ) → NoneOn p k more → records_at p (log ++ more) k ≡ records_at p log k
same_records p log more k none = records_from-append p k (first_records p k) log more ∙ quiet_records p k (records_at p log k) more none

-- the same, from a place on
pub records_since : (p : Plan) (log : List Entry) (at k : ℕ) → NoneOn p k (drop at log) → records_at p log k ≡ records_at p (take at log) k
records_since p log at k none = ap (λ (l : List Entry). records_at p l k) (sym (take-append-drop at log)) ∙ same_records p (take at log) (drop at log) k none

-- one more entry on the cell
pub next_records : (p : Plan) (log : List Entry) (e : Entry) (k : ℕ) → cell_of p e.call ≡ k → records_at p (log ++ e ∷ []) k ≡ records_after (records_at p log k) e.call
next_records p log e k on = records_from-append p k (first_records p k) log (e ∷ [])
    ∙ cond-true (eqb (cell_of p e.call) k) (records_after (records_at p log k) e.call) (records_at p log k) (eq-eqb (cell_of p e.call) k on)
