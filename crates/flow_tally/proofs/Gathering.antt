-- What is gathered of datagrams grows record by record, datagram by datagram and file by file.
use Rattle.std.specs.Prelude.{slice_get}
use Rattle.std.specs.List.{AllByRecursion, flat_map}
use Rattle.std.proofs.Common.{◌≡◌, ◌∙◌, ℕ, ◌+◌, ◌*◌, ◌^◌, ◌≤◌, Some, List, [], ◌∷◌, ◌++◌, length, map, take, sym, ap, arith}
use Rattle.std.proofs.lemmas.List.{length-append, length-map, map-append, take_all}
use Rattle.flow_fold.specs.Flows.{Flows}
use Rattle.flow_fold.specs.Pair.{pairs_of, pairs_under, record_key, record_value}
use Rattle.flow_fold.proofs.Pairs.{length-pairs_of, pairs_of-append, pairs_of-one, pairs_under-push}
use Rattle.netflow_five.specs.Datagram.{IsDatagram, records_of, count_of}
use Rattle.netflow_five.specs.File.{all_records, joined}
use Rattle.netflow_five.specs.Header.{header_of}
use Rattle.netflow_five.specs.Mark.{mark_of}
use Rattle.netflow_five.specs.declared.header.Header.{Header}
use Rattle.netflow_five.specs.declared.record.FlowRecord.{FlowRecord}
use Rattle.netflow_five.specs.declared.seq_mark.SeqMark.{SeqMark}
use Rattle.netflow_five.proofs.Parts.{length-records_of}
use Rattle.flow_tally.proofs.Lists.{take_get}
use Rattle.flow_tally.specs.Gathered.{HasGathered, Adds}
use Rattle.flow_tally.specs.Reading.{IsGatheredOf}
use Rattle.flow_tally.specs.declared.gathered.Gathered.{Gathered}

-- one record more of a datagram has one pair more
pub pairs_more : (header : Header) (d : List ℕ) (i : ℕ) (r : FlowRecord) → slice_get (records_of d) i ≡ Some r
    → pairs_under header (take (i + 1) (records_of d)) ≡ pairs_under header (take i (records_of d)) ++ (record_key r, record_value header r) ∷ []
pairs_more header d i r is = ap (pairs_under header) (take_get (records_of d) i r is) ∙ pairs_under-push header (take i (records_of d)) r

-- with all its records a datagram's pairs are there
pub pairs_whole : (d : List ℕ) → pairs_under (header_of d) (take (count_of d) (records_of d)) ≡ pairs_of (d ∷ [])
pairs_whole d = ap (pairs_under (header_of d)) (take_all (count_of d) (records_of d) (omega (arith, length-records_of d))) ∙ sym (pairs_of-one d)

pub none_gathered : (gathered : Gathered) → gathered.pairs.items ≡ [] → gathered.marks.items ≡ [] → HasGathered [] gathered
unfolding pairs_of
none_gathered gathered pairs marks = record { pairs = pairs; marks = marks }

-- more was gathered
pub gathered_more : (ds es : List (List ℕ)) (old new : Gathered) → HasGathered ds old → Adds es old new → HasGathered (ds ++ es) new
gathered_more ds es old new had adds = record {
  pairs = adds.pairs ∙ ap (λ (z : Flows). z ++ pairs_of es) had.pairs ∙ sym (pairs_of-append ds es);
  marks = adds.marks ∙ ap (λ (z : List SeqMark). z ++ map mark_of es) had.marks ∙ sym (map-append mark_of ds es);
}

-- a datagram has 48 bytes for each record, and so has a file
records_fit : (ds : List (List ℕ)) → AllByRecursion IsDatagram ds → 48 * length (flat_map records_of ds) ≤ length (joined ds)
records_fit [] each = omega arith
records_fit (d ∷ ds) each =
    let size = each.0.size in omega (
      arith,
      length-append (records_of d) (flat_map records_of ds),
      length-append d (joined ds),
      length-records_of d,
      records_fit ds each.1,
    )

-- a datagram has 72 bytes and more, and so has a file for each of its own
datagrams_fit : (ds : List (List ℕ)) → AllByRecursion IsDatagram ds → 72 * length ds ≤ length (joined ds)
datagrams_fit [] each = omega arith
datagrams_fit (d ∷ ds) each = let first = each.0 in omega (arith, first.size, first.some_records, length-append d (joined ds), datagrams_fit ds each.1)

-- what was gathered of files within the limit on bytes are fewer pairs than 2^23
pub few_gathered : {contents ds : List (List ℕ)} {gathered : Gathered} → IsGatheredOf contents ds gathered → length gathered.pairs.items ≤ 2 ^ 23
unfolding all_records
few_gathered {contents} {ds} {gathered} is =
    let within = is.good.within in omega (
      arith,
      ap length is.all.pairs,
      length-pairs_of ds,
      records_fit ds is.file.each,
      ap length is.file.whole,
    )

-- and no more marks than 2^22
pub few_marks : {contents ds : List (List ℕ)} {gathered : Gathered} → IsGatheredOf contents ds gathered → length gathered.marks.items ≤ 2 ^ 22
few_marks {contents} {ds} {gathered} is =
    let within = is.good.within in omega (
      arith,
      ap length is.all.marks,
      length-map ds mark_of,
      datagrams_fit ds is.file.each,
      ap length is.file.whole,
    )
