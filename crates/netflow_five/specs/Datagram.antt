-- What a datagram is, as a whole string of bytes, and its records.
use Rattle.std.specs.Prelude.{◌≡◌, ℕ, zero, suc, ◌+◌, ◌*◌, ◌<◌, ◌≤◌, List, [], ◌∷◌, ◌++◌, length, map, take, drop}
use Rattle.netflow_five.specs.Field.{field}
use Rattle.netflow_five.specs.Record.{record_of}
use Rattle.netflow_five.specs.declared.record.FlowRecord.{FlowRecord}

-- the number in the first two bytes
unfoldable pub version_of : List ℕ → ℕ
version_of bytes = field 0 2 bytes

-- the number in the two bytes after the version
unfoldable pub count_of : List ℕ → ℕ
count_of bytes = field 2 2 bytes

-- the version is 5, the count is from 1 to 30, and the length is as the count says
pub record IsDatagram (bytes : List ℕ) : Type 0 where
  pub version : version_of bytes ≡ 5
  pub some_records : 0 < count_of bytes
  pub few_records : count_of bytes ≤ 30
  pub size : length bytes ≡ 24 + 48 * count_of bytes

-- the first n consecutive parts of so many bytes each
abbrev pub parts : ℕ → ℕ → List ℕ → List (List ℕ)
parts size zero bytes = []
parts size (suc n) bytes = take size bytes ∷ parts size n (drop size bytes)

-- the records of a datagram are its consecutive parts of 48 bytes after the first 24
unfoldable pub records_of : List ℕ → List FlowRecord
records_of datagram = map record_of (parts 48 (count_of datagram) (drop 24 datagram))

-- some first bytes are a datagram
abbrev pub BeginsWithDatagram : List ℕ → Type 0
BeginsWithDatagram bytes = (datagram : List ℕ) × (rest : List ℕ) × IsDatagram datagram × (bytes ≡ datagram ++ rest)
