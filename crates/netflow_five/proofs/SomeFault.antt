-- Bytes begin with a datagram or fail a test, and are datagrams or go bad at a place.
use Rattle.std.specs.Prelude.{◌⊎◌}
use Rattle.std.proofs.Common.{◌≡◌, ◌∙◌, ℕ, zero, suc, ◌+◌, ◌-◌, ◌*◌, ◌<◌, ◌≤◌, List, [], ◌∷◌, ◌++◌, length, take, drop, refl, sym, ap, inl, inr, arith}
use Rattle.std.proofs.lemmas.Bool.{cases_eq, cases_lt}
use Rattle.std.proofs.lemmas.List.{length-append, length-drop, length-take, take-append-drop, take_at}
use Rattle.netflow_five.specs.Datagram.{BeginsWithDatagram, version_of, count_of}
use Rattle.netflow_five.specs.Fault.{IsFault}
use Rattle.netflow_five.specs.File.{IsWellFormed, IsBad}
use Rattle.netflow_five.specs.Next.{ReadTo}
use Rattle.netflow_five.specs.declared.malformed.Malformed.{Malformed}
use Rattle.netflow_five.specs.declared.malformed.Malformed.TheVariants.{ShortHeader, Version, Count, ShortRecords}
use Rattle.netflow_five.proofs.Files.{all_read, bad_here, nothing_read, one_more}
use Rattle.netflow_five.proofs.Front.{field_front}

-- some test fails
abbrev Fails : List ℕ → Type 0
Fails bytes = (cause : Malformed) × IsFault bytes cause

-- bytes that pass the four tests begin with a datagram
front_whole : (bytes : List ℕ) → version_of bytes ≡ 5 → 0 < count_of bytes → count_of bytes ≤ 30 → 24 + 48 * count_of bytes ≤ length bytes → BeginsWithDatagram bytes
unfolding version_of count_of
front_whole bytes five some few enough =
    let size = 24 + 48 * count_of bytes in
    let version : version_of (take size bytes) ≡ version_of bytes = field_front 0 2 size bytes (omega arith) enough in
    let count : count_of (take size bytes) ≡ count_of bytes = field_front 2 2 size bytes (omega arith) enough in (
      take size bytes,
      drop size bytes,
      record {
        version = version ∙ five;
        some_records = omega (arith, count, some);
        few_records = omega (arith, count, few);
        size = omega (arith, length-take size bytes, count, enough);
      },
      sym (take-append-drop size bytes),
    )

-- the count of records, and room for them
records_there : (bytes : List ℕ) → 24 ≤ length bytes → version_of bytes ≡ 5 → BeginsWithDatagram bytes ⊎ Fails bytes
records_there bytes header five = elim (cases_eq (count_of bytes) 0) [
  | inl none ↦ inr (Count (count_of bytes), (header, five, refl, inl none))
  | inr some ↦ elim (cases_lt 30 (count_of bytes)) [
    | inl many ↦ inr (Count (count_of bytes), (header, five, refl, inr many))
    | inr few ↦ elim (cases_lt (length bytes) (24 + 48 * count_of bytes)) [
      | inl short ↦ inr (ShortRecords (length bytes - 24) (48 * count_of bytes), (five, omega arith, few, omega arith, refl, omega arith))
      | inr enough ↦ inl (front_whole bytes five (omega arith) few enough)
    ]
  ]
]

-- bytes begin with a datagram or fail a test
pub begins_or_fails : (bytes : List ℕ) → BeginsWithDatagram bytes ⊎ Fails bytes
begins_or_fails bytes = elim (cases_lt (length bytes) 24) [
  | inl short ↦ inr (ShortHeader (length bytes), (refl, short))
  | inr header ↦ elim (cases_eq (version_of bytes) 5) [
    | inl five ↦ records_there bytes header five
    | inr other ↦ inr (Version (version_of bytes), (header, refl, other))
  ]
]

-- bytes go bad somewhere
abbrev GoesBad : List ℕ → Type 0
GoesBad bytes = (offset : ℕ) × (cause : Malformed) × IsBad bytes offset cause

-- from a place on, with at most so many bytes left
read_on : (left : ℕ) (bytes : List ℕ) (at : ℕ) (ds : List (List ℕ)) → length bytes ≤ at + left → ReadTo bytes at ds → IsWellFormed bytes ⊎ GoesBad bytes
read_on zero bytes at ds end read = inl (ds, all_read bytes at ds read (omega arith))
read_on (suc left) bytes at ds end read = elim (cases_lt at (length bytes)) [
  | inr past ↦ inl (ds, all_read bytes at ds read past)
  | inl more ↦ elim (begins_or_fails (drop at bytes)) [
    | inr fault ↦ inr (at, fault.0, bad_here bytes at ds fault.0 read more fault.1)
    | inl (datagram, rest, is, whole) ↦
        let place = sym (ap (take (length datagram)) whole ∙ take_at datagram rest (length datagram) refl) in
        let within : at + length datagram ≤ length bytes = omega (arith, more, length-drop at bytes, ap length whole, length-append datagram rest) in
        let shorter : length bytes ≤ at + length datagram + left = omega (arith, end, is.size) in
        read_on left bytes (at + length datagram) (ds ++ datagram ∷ []) shorter (one_more bytes at ds datagram read is place within)
  ]
]

-- bytes are datagrams, or go bad at a place
pub whole_or_bad : (bytes : List ℕ) → IsWellFormed bytes ⊎ GoesBad bytes
whole_or_bad bytes = read_on (length bytes) bytes 0 [] (omega arith) (nothing_read bytes)
