-- Which calls change the contents.
use Rattle.std.specs.Prelude.{◌≢◌, Bool, false, not, ◌&&◌, is_some, is_none}
use Rattle.seat_history.specs.Contents.{Contents}
use Rattle.seat_history.specs.Key.{key_number}
use Rattle.seat_history.specs.Step.{contents_after, is_same, is_value}
use Rattle.seat_history.specs.declared.call.Call.{Call}
use Rattle.seat_history.specs.declared.call.Call.TheVariants.{Store, Swap, Insert, Replace, Remove}

-- the call leaves other contents
abbrev pub Changes : Contents → Call → Type 0
Changes contents call = contents_after contents call ≢ contents

-- the same as a test
abbrev pub is_change : Contents → Call → Bool
is_change contents (Store reg new) = not (is_same (contents.registers reg) new)
is_change contents (Swap reg old new) = is_same (contents.registers reg) old && not (is_same old new)
is_change contents (Insert key val) = is_none (contents.values (key_number key))
is_change contents (Replace key old new) = is_value (contents.values (key_number key)) old && not (is_same old new)
is_change contents (Remove key) = is_some (contents.values (key_number key))
is_change contents _ = false
