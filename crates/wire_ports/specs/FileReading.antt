-- A feed over std's files, as its callers see it.
use Rattle.std.specs.Prelude.{ℕ, ◌+◌, Bool, true, false, Option, Some}
use Rattle.wire_ports.specs.Ports.{one_more}
use Rattle.wire_ports.specs.declared.feed.FailedIn.{FailedIn}
use Rattle.wire_ports.specs.declared.feed.FailedIn.TheVariants.{Start, Read}

-- how many bytes of the started file were read, its number, whether there is one, the count of
-- faults and the last failure
pub record FileReading : Type 0 where
  pub given : ℕ
  pub current : ℕ
  pub started : Bool
  pub faults : ℕ
  pub failed : Option (ℕ × FailedIn)

-- the file with this number was started
abbrev pub after_start : FileReading → ℕ → FileReading
after_start f file = record f { given = 0; current = file; started = true }

-- the start of the file with this number failed
abbrev pub after_failed_start : FileReading → ℕ → FileReading
after_failed_start f file = record f { given = 0; current = file; started = false; faults = one_more f.faults; failed = Some (file, Start) }

-- so many bytes were read
abbrev pub after_read : FileReading → ℕ → FileReading
after_read f n = record f { given = f.given + n }

-- a read failed
abbrev pub after_failed_read : FileReading → FileReading
after_failed_read f = record f { faults = one_more f.faults; failed = Some (f.current, Read) }
