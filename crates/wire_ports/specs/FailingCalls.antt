-- Calls that are counted from 1, and those among them that are to fail.
use Rattle.std.specs.Prelude.{ℕ, ◌==◌, Bool, List}
use Rattle.std.specs.List.{list_any}
use Rattle.wire_ports.specs.Ports.{one_more}

-- after so many calls, the next one is listed
abbrev pub is_due : List ℕ → ℕ → Bool
is_due listed made = list_any (λ number. number == one_more made) listed
