-- Bytes that begin with a datagram have no fault.
use Rattle.std.proofs.Common.{◌≡◌, ℕ, ◌+◌, ◌*◌, ◌<◌, ◌≤◌, List, ◌++◌, length, subst, sym, ◌∙◌, arith, inl, inr}
use Rattle.std.proofs.lemmas.List.{length-append}
use Rattle.netflow_five.specs.Field.{field}
use Rattle.netflow_five.specs.Datagram.{IsDatagram, BeginsWithDatagram, version_of, count_of}
use Rattle.netflow_five.specs.Fault.{IsFault, IsBadCount}
use Rattle.netflow_five.specs.Next.{IsShort}
use Rattle.netflow_five.specs.declared.malformed.Malformed.{Malformed}
use Rattle.netflow_five.specs.declared.malformed.Malformed.TheVariants.{ShortHeader, Version, Count, ShortRecords}
use Rattle.netflow_five.proofs.Front.{field_append}

-- what the header of a datagram at the front of bytes says of them
record Front (bytes datagram rest : List ℕ) : Type 0 where
  pub header : 24 ≤ length bytes
  pub version : version_of bytes ≡ 5
  pub count : count_of bytes ≡ count_of datagram
  pub some_records : 0 < count_of bytes
  pub few_records : count_of bytes ≤ 30
  pub size : 24 + 48 * count_of bytes ≤ length bytes

front_of : (datagram rest : List ℕ) → IsDatagram datagram → Front (datagram ++ rest) datagram rest
unfolding version_of count_of
front_of datagram rest is =
    let len : length (datagram ++ rest) ≡ length datagram + length rest = length-append datagram rest in
    let size : length datagram ≡ 24 + 48 * field 2 2 datagram = is.size in
    let version : field 0 2 (datagram ++ rest) ≡ 5 = field_append 0 2 datagram rest (omega arith) ∙ is.version in
    let count : field 2 2 (datagram ++ rest) ≡ field 2 2 datagram = field_append 2 2 datagram rest (omega arith) in
    let some : 0 < field 2 2 datagram = is.some_records in
    let few : field 2 2 datagram ≤ 30 = is.few_records in
    record {
      header = omega arith;
      version = version;
      count = count;
      some_records = omega arith;
      few_records = omega arith;
      size = omega arith;
    }

no_bad_count : (count : ℕ) → 0 < count → count ≤ 30 → IsBadCount count → ⊥
no_bad_count count some few (inl none) = omega arith
no_bad_count count some few (inr many) = omega arith

no_fault_at : (bytes datagram rest : List ℕ) (cause : Malformed) → Front bytes datagram rest → IsFault bytes cause → ⊥
no_fault_at bytes datagram rest (ShortHeader left) front fault = omega (arith, fault.0, fault.1, front.header)
no_fault_at bytes datagram rest (Version found) front fault = fault.2 (fault.1 ∙ front.version)
no_fault_at bytes datagram rest (Count found) front fault = no_bad_count found (omega (arith, fault.2, front.some_records)) (omega (arith, fault.2, front.few_records)) fault.3
no_fault_at bytes datagram rest (ShortRecords left wanted) front fault = omega (arith, fault.3, fault.4, fault.5, front.size)

pub no_fault : (datagram rest : List ℕ) (cause : Malformed) → IsDatagram datagram → IsFault (datagram ++ rest) cause → ⊥
no_fault datagram rest cause is fault = no_fault_at (datagram ++ rest) datagram rest cause (front_of datagram rest is) fault

-- so bytes with a fault begin with no datagram
pub none_begins : (bytes : List ℕ) (cause : Malformed) → IsFault bytes cause → BeginsWithDatagram bytes → ⊥
none_begins bytes cause fault begins =
    no_fault begins.0 begins.1 cause begins.2 (subst (λ (z : List ℕ). IsFault z cause) begins.3 fault)

version_longer : (bytes rest : List ℕ) → 24 ≤ length bytes → version_of (bytes ++ rest) ≡ version_of bytes
unfolding version_of
version_longer bytes rest header = field_append 0 2 bytes rest (omega arith)

count_longer : (bytes rest : List ℕ) → 24 ≤ length bytes → count_of (bytes ++ rest) ≡ count_of bytes
unfolding count_of
count_longer bytes rest header = field_append 2 2 bytes rest (omega arith)

-- a fault that more bytes don't mend stays, whatever follows
pub lasts : (bytes rest : List ℕ) (cause : Malformed) → (IsShort cause → ⊥) → IsFault bytes cause → IsFault (bytes ++ rest) cause
lasts bytes rest (ShortHeader left) long fault = absurd (long tt)
lasts bytes rest (Version found) long fault = (omega (arith, fault.0, length-append bytes rest), fault.1 ∙ sym (version_longer bytes rest fault.0), fault.2)
lasts bytes rest (Count found) long fault =
    (omega (arith, fault.0, length-append bytes rest), version_longer bytes rest fault.0 ∙ fault.1, fault.2 ∙ sym (count_longer bytes rest fault.0), fault.3)
lasts bytes rest (ShortRecords left wanted) long fault = absurd (long tt)

-- where more bytes may mend the fault, there are fewer than the longest datagram has
pub short_bytes : (bytes : List ℕ) (cause : Malformed) → IsShort cause → IsFault bytes cause → length bytes < 1464
short_bytes bytes (ShortHeader left) short fault = omega (arith, fault.0, fault.1)
short_bytes bytes (Version found) short fault = absurd short
short_bytes bytes (Count found) short fault = absurd short
short_bytes bytes (ShortRecords left wanted) short fault = omega (arith, fault.2, fault.3, fault.4, fault.5)
