-- Turns: a step that found another node than it was given is paid for by another caller's change.
use Rattle.std.specs.Prelude.{◌≡◌, ℕ, ◌/◌, ◌<◌, ◌==◌, ◌&&◌, ◌||◌, Bool, true, false, not, List, [], ◌∷◌, ◌++◌, Option, Some, length, filter, take, drop, if◌then◌else◌}
use Rattle.seat_history.specs.declared.entry.Entry.{Entry}
use Rattle.step_rules.specs.Claims.{BACK, HOLD}
use Rattle.step_rules.specs.History.{cell_of}
use Rattle.step_rules.specs.Kinds.Standing.{is_look}
use Rattle.step_rules.specs.declared.plan.Plan.{Plan}
use Rattle.step_rules.specs.declared.view.Counted.{Counted}
use Rattle.step_rules.specs.declared.view.Kind.{Kind}
use Rattle.step_rules.specs.declared.view.Kind.TheVariants.{BackupExchange, ClaimStore, NodeStore, Recheck, ScanLoad}

-- a recheck or an exchange that found another node than that of the word which it was given
abbrev pub is_lost_by : Kind → ℕ → Bool
is_lost_by (Recheck claim cell seen) found = not (found / 2 == seen / 2)
is_lost_by (BackupExchange cell seen node) found = not (found / 2 == seen / 2)
is_lost_by _ found = false

abbrev pub is_lost : Counted → Bool
is_lost step = is_lost_by step.kind step.found

-- how many of the steps are lost
abbrev pub lost_steps : List Counted → ℕ
lost_steps steps = length (filter is_lost steps)

abbrev pub is_claim_round : Kind → Bool
is_claim_round (Recheck claim cell seen) = (claim == BACK) || (claim == HOLD)
is_claim_round _ = false

-- how many of the steps are rechecks on Back or Hold: so many times a cell's node was claimed, or was to be
abbrev pub claim_rounds : List Counted → ℕ
claim_rounds steps = length (filter (λ (step : Counted). is_claim_round step.kind) steps)

abbrev pub is_claim_store : Kind → Bool
is_claim_store (ClaimStore claim node) = true
is_claim_store _ = false

-- how many of the steps store a claim
abbrev pub claim_stores : List Counted → ℕ
claim_stores steps = length (filter (λ (step : Counted). is_claim_store step.kind) steps)

abbrev pub is_exchange : Kind → Bool
is_exchange (BackupExchange cell seen node) = true
is_exchange _ = false

-- how many of the steps are exchanges of a backup
abbrev pub exchanges : List Counted → ℕ
exchanges steps = length (filter (λ (step : Counted). is_exchange step.kind) steps)

abbrev pub is_scan_load : Kind → Bool
is_scan_load (ScanLoad word) = true
is_scan_load _ = false

-- how many of the steps are loads of a scan
abbrev pub scan_loads : List Counted → ℕ
scan_loads steps = length (filter (λ (step : Counted). is_scan_load step.kind) steps)

abbrev pub is_node_store : Kind → Bool
is_node_store (NodeStore node j word) = true
is_node_store _ = false

-- how many of the steps store a word of a node
abbrev pub node_stores : List Counted → ℕ
node_stores steps = length (filter (λ (step : Counted). is_node_store step.kind) steps)

-- how many of the entries are other callers' changes of the cell k
abbrev pub changes_on : Plan → ℕ → ℕ → List Entry → ℕ
changes_on p k caller entries = length (filter (λ (e : Entry). (cell_of p e.call == k) && not (e.caller == caller)) entries)

-- how much of the history was seen at the last of these steps that looks at the cell k; `found` where none does
abbrev pub last_look : ℕ → Option ℕ → List Counted → Option ℕ
last_look k found [] = found
last_look k found (step ∷ r) = last_look k (if is_look k step.kind then Some step.seen else found) r

-- the step is a look at the cell k, and between the look before it and it the history has another caller's change of the cell
pub record IsPaid (p : Plan) (k caller : ℕ) (seen : List Entry) (found : Option ℕ) (step : Counted) : Type 0 where
  pub look : is_look k step.kind ≡ true
  pub from : ℕ
  pub before : found ≡ Some from
  pub change : 0 < changes_on p k caller (drop from (take step.seen seen))

-- each lost step of a caller's call on the cell k is paid for, by the stretch of the history between the look before it and it: so these
-- stretches don't overlap
pub record TurnsArePaid (p : Plan) (k caller : ℕ) (seen : List Entry) (found : Option ℕ) (steps : List Counted) : Type 0 where
  pub each : (front back : List Counted) (step : Counted) → steps ≡ front ++ step ∷ back → is_lost step ≡ true → IsPaid p k caller seen (last_look k found front) step
