-- The pairs of datagrams, datagram by datagram and record by record.
use Rattle.std.specs.List.{flat_map}
use Rattle.std.proofs.Common.{◌≡◌, ◌∙◌, ℕ, ◌+◌, List, [], ◌∷◌, ◌++◌, length, refl, sym, ap₂}
use Rattle.std.proofs.lemmas.Grind.{flat_map-append}
use Rattle.std.proofs.lemmas.List.{append-nil, length-append, length-map, map-append}
use Rattle.netflow_five.specs.Datagram.{records_of}
use Rattle.netflow_five.specs.File.{all_records}
use Rattle.netflow_five.specs.Header.{header_of}
use Rattle.netflow_five.specs.declared.header.Header.{Header}
use Rattle.netflow_five.specs.declared.record.FlowRecord.{FlowRecord}
use Rattle.flow_fold.specs.Pair.{pairs_of, pairs_under, record_key, record_value}

pub pairs_under-none : (header : Header) → pairs_under header [] ≡ []
unfolding pairs_under
pairs_under-none header = refl

-- one record more has one pair more
pub pairs_under-push : (header : Header) (records : List FlowRecord) (r : FlowRecord)
    → pairs_under header (records ++ r ∷ []) ≡ pairs_under header records ++ (record_key r, record_value header r) ∷ []
unfolding pairs_under
pairs_under-push header records r = map-append (λ (x : FlowRecord). (record_key x, record_value header x)) records (r ∷ [])

pub length-pairs_under : (header : Header) (records : List FlowRecord) → length (pairs_under header records) ≡ length records
unfolding pairs_under
length-pairs_under header records = length-map records (λ (x : FlowRecord). (record_key x, record_value header x))

-- the pairs of one datagram
pub pairs_of-one : (d : List ℕ) → pairs_of (d ∷ []) ≡ pairs_under (header_of d) (records_of d)
unfolding pairs_of
pairs_of-one d = append-nil (pairs_under (header_of d) (records_of d))

-- the pairs of datagrams in a row are those of each part
pub pairs_of-append : (ds es : List (List ℕ)) → pairs_of (ds ++ es) ≡ pairs_of ds ++ pairs_of es
unfolding pairs_of
pairs_of-append ds es = flat_map-append (λ (d : List ℕ). pairs_under (header_of d) (records_of d)) ds es

-- there are as many pairs as records
pub length-pairs_of : (ds : List (List ℕ)) → length (pairs_of ds) ≡ length (all_records ds)
unfolding pairs_of all_records
length-pairs_of [] = refl
length-pairs_of (d ∷ ds) =
    length-append (pairs_under (header_of d) (records_of d)) (flat_map (λ (e : List ℕ). pairs_under (header_of e) (records_of e)) ds)
    ∙ ap₂ (λ (m n : ℕ). m + n) (length-pairs_under (header_of d) (records_of d)) (length-pairs_of ds)
    ∙ sym (length-append (records_of d) (flat_map records_of ds))
