-- A sink over memory, as its callers see it.
use Rattle.std.specs.Prelude.{◌≡◌, ℕ, ◌-◌, List, ◌++◌, length, take, min, Result, Ok, Err}
use Rattle.wire_ports.specs.Ports.{one_more}
use Rattle.wire_ports.specs.declared.feed.Failed.{Failed}

-- the bytes that were taken, the room that is left for more, and the count of faults
pub record Taking : Type 0 where
  pub taken : List ℕ
  pub room : ℕ
  pub faults : ℕ

-- these bytes were taken
abbrev pub after_write : Taking → List ℕ → Taking
after_write t bytes = record t { taken = t.taken ++ bytes; room = t.room - length bytes }

-- a write failed
abbrev pub after_failed_write : Taking → Taking
after_failed_write t = record t { faults = one_more t.faults }

-- what a write of these bytes comes to: as many are taken as there is room for, or it fails where there is none
abbrev pub IsWrite : List ℕ → Taking → Result ℕ Failed → Taking → Type 0
IsWrite bytes t (Ok n) new = (n ≡ min (length bytes) t.room) × (new ≡ after_write t (take n bytes))
IsWrite bytes t (Err _) new = (t.room ≡ 0) × (new ≡ after_failed_write t)
