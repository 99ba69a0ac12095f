-- A feed over memory, as its callers see it.
use Rattle.std.specs.Prelude.{ℕ, ◌+◌, Bool, true, List, drop}
use Rattle.wire_ports.specs.Ports.{bytes_under}
use Rattle.wire_ports.specs.NamedBytes.{names_of}

-- the files that it has, and how far the reading of one of them has come
pub record Reading : Type 0 where
  pub files : List (List ℕ × List ℕ)
  pub left : List ℕ
  pub given : ℕ
  pub current : ℕ
  pub started : Bool

-- the file with this name was started; a name that it hasn't starts an empty file
abbrev pub after_start : Reading → ℕ → List ℕ → Reading
after_start r file name = record r { left = bytes_under (names_of r.files) name; given = 0; current = file; started = true }

-- so many bytes were read
abbrev pub after_read : Reading → ℕ → Reading
after_read r n = record r { left = drop n r.left; given = r.given + n }
