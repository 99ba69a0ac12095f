-- The consecutive parts of bytes.
use Rattle.std.proofs.Common.{◌≡◌, ℕ, zero, suc, ◌+◌, ◌*◌, ◌<◌, List, length, take, drop, map, Some, refl, ap, ◌∙◌, arith}
use Rattle.std.specs.Prelude.{slice_get}
use Rattle.std.proofs.lemmas.List.{drop-drop}
use Rattle.netflow_five.specs.Datagram.{parts, records_of, count_of}
use Rattle.netflow_five.specs.Record.{record_of}

part_at : (size n i : ℕ) (bytes : List ℕ) → i < n → slice_get (map record_of (parts size n bytes)) i ≡ Some (record_of (take size (drop (size * i) bytes)))
part_at size zero i bytes lt = absurd (omega arith)
part_at size (suc n) zero bytes lt =
    let e : 0 ≡ size * 0 = omega arith in
    ap (λ (k : ℕ). Some (record_of (take size (drop k bytes)))) e
part_at size (suc n) (suc i) bytes lt =
    let e : size + size * i ≡ size * suc i = omega arith in
    part_at size n i (drop size bytes) (omega arith) ∙ ap (λ (z : List ℕ). Some (record_of (take size z))) (drop-drop (size * i) size bytes ∙ ap (λ (k : ℕ). drop k bytes) e)

-- the record of a datagram with this number
pub record_is : (i : ℕ) (datagram : List ℕ) → i < count_of datagram
    → slice_get (records_of datagram) i ≡ Some (record_of (take 48 (drop (24 + 48 * i) datagram)))
unfolding records_of
record_is i datagram lt =
    part_at 48 (count_of datagram) i (drop 24 datagram) lt ∙ ap (λ (z : List ℕ). Some (record_of (take 48 z))) (drop-drop (48 * i) 24 datagram)

length_parts : (size n : ℕ) (bytes : List ℕ) → length (map record_of (parts size n bytes)) ≡ n
length_parts size zero bytes = refl
length_parts size (suc n) bytes = ap suc (length_parts size n (drop size bytes))

-- a datagram has as many records as it counts
pub length-records_of : (datagram : List ℕ) → length (records_of datagram) ≡ count_of datagram
unfolding records_of
length-records_of datagram = length_parts 48 (count_of datagram) (drop 24 datagram)
