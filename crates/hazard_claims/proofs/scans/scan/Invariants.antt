use Rattle.std.proofs.Common.{◌≡◌, ◌<◌, List}
use Rattle.step_rules.specs.SeatData.{IsSeat}
use Rattle.step_rules.specs.declared.view.Counted.{Counted}
use Rattle.hazard_claims.proofs.Loading.{Ended, Going, Loads}
use Rattle.hazard_claims.proofs.scans.scan.Given as goal

-- the words before were loaded, and the scan goes on until the last one; the seat is lawful
abbrev pub invariant-loop-word : goal.invariant-loop-word
invariant-loop-word l = (loads : List Counted) × Loads l.word loads l.initial.seat.view
    × (l.word < l.word-end → Going l.word loads l.initial.seat l.seat)
    × (l.word ≡ l.word-end → Ended loads l.initial.seat l.seat)
    × IsSeat l.seat
