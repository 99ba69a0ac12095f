-- A sink over memory whose writes are listed to fail, as its callers see it.
use Rattle.std.specs.Prelude.{◌≡◌, ◌⊎◌, ℕ, IsTrue, List, length, take, min, Result, Ok, Err}
use Rattle.wire_ports.specs.FailingCalls.{is_due}
use Rattle.wire_ports.specs.Ports.{one_more}
use Rattle.wire_ports.specs.Taking as plain
use Rattle.wire_ports.specs.declared.feed.Failed.{Failed}

-- what it took, the numbers of the writes that fail, how many were made, and the most bytes of one
pub record MemoryTaking : Type 0 where
  pub taking : plain.Taking
  pub failing : List ℕ
  pub calls : ℕ
  pub piece : ℕ

-- the next write is listed
abbrev pub IsDue : MemoryTaking → Type 0
IsDue m = IsTrue (is_due m.failing m.calls)

-- these bytes were taken
abbrev pub after_write : MemoryTaking → List ℕ → MemoryTaking
after_write m bytes = record m { taking = plain.after_write m.taking bytes; calls = one_more m.calls }

-- a write failed
abbrev pub after_failed_write : MemoryTaking → MemoryTaking
after_failed_write m = record m { taking = plain.after_failed_write m.taking; calls = one_more m.calls }

-- what a write of these bytes comes to: a piece is taken, as there is room, or it fails where it is listed or no room is left
abbrev pub IsWrite : List ℕ → MemoryTaking → Result ℕ Failed → MemoryTaking → Type 0
IsWrite bytes m (Ok n) new = (n ≡ min m.piece (min (length bytes) m.taking.room)) × (new ≡ after_write m (take n bytes))
IsWrite bytes m (Err _) new = (IsDue m ⊎ (m.taking.room ≡ 0)) × (new ≡ after_failed_write m)
