-- A feed over memory whose calls are listed to fail, as its callers see it.
use Rattle.std.specs.Prelude.{ℕ, false, IsTrue, List, [], Option, Some}
use Rattle.wire_ports.specs.FailingCalls.{is_due}
use Rattle.wire_ports.specs.NamedBytes.{names_of}
use Rattle.wire_ports.specs.Ports.{IsUnknown, one_more}
use Rattle.wire_ports.specs.Reading as plain
use Rattle.wire_ports.specs.declared.feed.FailedIn.{FailedIn}
use Rattle.wire_ports.specs.declared.feed.FailedIn.TheVariants.{Read}

-- what it reads, the numbers of the calls that fail, how many were made, the most bytes of one
-- read, the count of faults and the last failure
pub record MemoryReading : Type 0 where
  pub reading : plain.Reading
  pub failing : List ℕ
  pub calls : ℕ
  pub piece : ℕ
  pub faults : ℕ
  pub failed : Option (ℕ × FailedIn)

-- the next call is listed
abbrev pub IsDue : MemoryReading → Type 0
IsDue m = IsTrue (is_due m.failing m.calls)

-- there is no file with this name
abbrev pub IsMissing : MemoryReading → List ℕ → Type 0
IsMissing m name = IsUnknown (Some (names_of m.reading.files)) name

-- the file with this name was started under this number
abbrev pub after_start : MemoryReading → ℕ → List ℕ → MemoryReading
after_start m file name = record m { reading = plain.after_start m.reading file name; calls = one_more m.calls }

-- the start of the file with this number failed, and no file is started
abbrev pub after_failed_start : MemoryReading → ℕ → FailedIn → MemoryReading
after_failed_start m file kind = record m {
  reading = record m.reading { left = []; given = 0; current = file; started = false };
  calls = one_more m.calls;
  faults = one_more m.faults;
  failed = Some (file, kind);
}

-- so many bytes were read
abbrev pub after_read : MemoryReading → ℕ → MemoryReading
after_read m n = record m { reading = plain.after_read m.reading n; calls = one_more m.calls }

-- a read failed
abbrev pub after_failed_read : MemoryReading → MemoryReading
after_failed_read m = record m { calls = one_more m.calls; faults = one_more m.faults; failed = Some (m.reading.current, Read) }
