-- Whether a caller holds a record.
use Rattle.std.specs.Prelude.{Bool, true, false}
use Rattle.seat_history.specs.declared.call.Call.{Call}
use Rattle.seat_history.specs.declared.call.Call.TheVariants.{Hold, Release}

-- whether one is held after a call
abbrev pub holds_after : Bool → Call → Bool
holds_after holds (Hold reg) = true
holds_after holds Release = false
holds_after holds _ = holds
