-- A file is datagrams one after the other.
use Rattle.std.specs.Prelude.{◌≡◌, ℕ, ◌+◌, ◌<◌, ◌≤◌, List, [], ◌∷◌, ◌++◌, length, take, drop}
use Rattle.std.specs.List.{AllByRecursion, flat_map}
use Rattle.netflow_five.specs.Datagram.{IsDatagram, count_of, records_of}
use Rattle.netflow_five.specs.Fault.{IsFault}
use Rattle.netflow_five.specs.declared.malformed.Malformed.{Malformed}
use Rattle.netflow_five.specs.declared.refused.Refused.{Refused}
use Rattle.netflow_five.specs.declared.refused.Refused.TheVariants as refused
use Rattle.netflow_five.specs.declared.record.FlowRecord.{FlowRecord}

-- the strings of a list one after the other
abbrev pub joined : List (List ℕ) → List ℕ
joined [] = []
joined (d ∷ ds) = d ++ joined ds

-- the bytes are these datagrams one after the other
pub record IsFile (bytes : List ℕ) (ds : List (List ℕ)) : Type 0 where
  pub each : AllByRecursion IsDatagram ds
  pub whole : bytes ≡ joined ds

-- the bytes are some datagrams one after the other
abbrev pub IsWellFormed : List ℕ → Type 0
IsWellFormed bytes = (ds : List (List ℕ)) × IsFile bytes ds

-- where each datagram begins, from a first place on, and how many records it has
abbrev pub places : ℕ → List (List ℕ) → List (ℕ × ℕ)
places at [] = []
places at (d ∷ ds) = (at, count_of d) ∷ places (at + length d) ds

-- the records of several datagrams, in order
unfoldable pub all_records : List (List ℕ) → List FlowRecord
all_records ds = flat_map records_of ds

-- the longest well-formed prefix ends at the offset, and the bytes from there fail this test first
pub record IsBad (bytes : List ℕ) (offset : ℕ) (cause : Malformed) : Type 0 where
  pub within : offset < length bytes
  pub prefix : IsWellFormed (take offset bytes)
  pub longest : (n : ℕ) → offset < n → n ≤ length bytes → IsWellFormed (take n bytes) → ⊥
  pub first : IsFault (drop offset bytes) cause

-- what each refusal says of the bytes; nothing says when memory runs out
abbrev pub IsRefusal : List ℕ → Refused → Type 0
IsRefusal bytes (refused.Malformed offset cause) = IsBad bytes offset cause
IsRefusal bytes refused.NoMemory = Unit {0}
