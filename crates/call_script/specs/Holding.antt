-- Who holds a record.
use Rattle.std.specs.Prelude.{◌≡◌, ℕ, ◌==◌, Bool, true, false, List, [], ◌∷◌, filter, is_some, map, slice_index_or, ⊤}
use Rattle.seat_history.specs.Object.{Object}
use Rattle.seat_history.specs.declared.call.Call.{Call}
use Rattle.seat_history.specs.declared.call.Call.TheVariants.{Hold, Look, Release}
use Rattle.seat_history.specs.declared.entry.Entry.{Entry}
pub use Rattle.step_rules.specs.Holding.{holds_after}

-- the list tells of each caller whether it holds a record
abbrev pub TellsHolders : List Bool → Object → Type 0
TellsHolders holding object = (caller : ℕ) → slice_index_or holding caller false ≡ is_some (object.held caller)

-- whether a caller holds a record after these calls
abbrev pub holds_from : Bool → List Call → Bool
holds_from holds [] = holds
holds_from holds (call ∷ calls) = holds_from (holds_after holds call) calls

-- a caller that holds a record or none may make the call
abbrev pub MayTake : Bool → Call → Type 0
MayTake holds (Hold reg) = holds ≡ false
MayTake holds Look = holds ≡ true
MayTake holds Release = holds ≡ true
MayTake holds _ = ⊤

-- it may make these calls in turn
abbrev pub MayTurn : Bool → List Call → Type 0
MayTurn holds [] = ⊤
MayTurn holds (call ∷ calls) = MayTake holds call × MayTurn (holds_after holds call) calls

-- the calls of a caller's own lines
abbrev pub calls_by : ℕ → List Entry → List Call
calls_by caller lines = map (λ (line : Entry). line.call) (filter (λ (line : Entry). line.caller == caller) lines)
