-- The tally of an engine's datagrams: of the first, and of one more.
use Rattle.std.proofs.Common.{◌≡◌, ◌∙◌, ℕ, ◌+◌, ◌-◌, ◌%◌, ◌^◌, ◌<◌, ◌≤◌, List, [], ◌∷◌, ◌++◌, length-append, ap, refl, sym, arith}
use Rattle.std.proofs.lemmas.List.Sums.{sum_by_push}
use Rattle.netflow_five.specs.Gaps.{gap_between, gaps, lost_among, next_sequence, resets_among}
use Rattle.netflow_five.specs.Tallies.{Expects, IsTally}
use Rattle.netflow_five.specs.declared.seq_mark.SeqMark.{SeqMark}
use Rattle.netflow_five.specs.declared.tally.Tally.{Tally}
use Rattle.netflow_five.proofs.GapSums.{gaps_join, lost_among-append, none_lost_yet, none_reset_yet, resets_among-append}

-- the tally of a single datagram
pub tally_first : (mark : SeqMark) (tally : Tally) → mark.count < 2 ^ 32 → tally.next ≡ next_sequence mark → tally.flows ≡ mark.count
    → tally.lost ≡ 0 → tally.resets ≡ 0 → IsTally (mark ∷ []) tally
tally_first mark tally count next flows lost resets = record {
  next = ([], mark, refl, next);
  flows = omega arith;
  lost = lost ∙ sym none_lost_yet;
  resets = resets ∙ sym none_reset_yet;
  few_flows = omega arith;
  few_lost = omega arith;
  few_resets = omega arith;
}

-- the gap after the last of the datagrams, by what the tally expects
abbrev gap_after : Tally → SeqMark → ℕ
gap_after tally mark = (mark.sequence + (2 ^ 32 - tally.next)) % 2 ^ 32

gaps_more : (sent : List SeqMark) (tally : Tally) (mark : SeqMark) → Expects sent tally.next
    → gaps (sent ++ mark ∷ []) ≡ gaps sent ++ gap_after tally mark ∷ []
gaps_more sent tally mark (before, last, whole, next) =
    ap (λ (ms : List SeqMark). gaps (ms ++ mark ∷ [])) whole ∙ gaps_join before last mark []
    ∙ ap (λ (ms : List SeqMark). gaps ms ++ gap_between last mark ∷ []) (sym whole)
    ∙ ap (λ (n : ℕ). gaps sent ++ (mark.sequence + (2 ^ 32 - n)) % 2 ^ 32 ∷ []) (sym next)

-- with one datagram more, what its gap comes to is added
pub tally_more : (sent : List SeqMark) (old new : Tally) (mark : SeqMark) (lost resets : ℕ) → IsTally sent old → mark.count < 2 ^ 32
    → lost ≡ lost_among (gap_after old mark ∷ []) → resets ≡ resets_among (gap_after old mark ∷ []) → lost ≤ 2 ^ 31 → resets ≤ 1
    → new.next ≡ next_sequence mark → new.flows ≡ old.flows + mark.count → new.lost ≡ old.lost + lost → new.resets ≡ old.resets + resets
    → IsTally (sent ++ mark ∷ []) new
tally_more sent old new mark lost resets is count lost_is resets_is few_lost few_resets next flows all_lost all_resets =
    let more = gaps_more sent old mark is.next in
    let sum = sum_by_push (λ (m : SeqMark). m.count) sent mark in
    let size = length-append sent (mark ∷ []) in
    let gone = ap lost_among more ∙ lost_among-append (gaps sent) (gap_after old mark ∷ []) in
    let anew = ap resets_among more ∙ resets_among-append (gaps sent) (gap_after old mark ∷ []) in
    record {
      next = (sent, mark, refl, next);
      flows = omega (arith, is.flows);
      lost = omega (arith, is.lost);
      resets = omega (arith, is.resets);
      few_flows = omega (arith, is.few_flows);
      few_lost = omega (arith, is.few_lost);
      few_resets = omega (arith, is.few_resets);
    }
