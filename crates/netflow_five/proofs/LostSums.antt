-- What the gaps of datagrams come to where others follow them, and where none is lost.
use Rattle.std.proofs.Common.{◌≡◌, ◌≢◌, ◌∙◌, ℕ, ◌+◌, ◌%◌, ◌^◌, ◌<◌, List, [], ◌∷◌, ◌++◌, append-nil, ap, refl, sym, subst, arith}
use Rattle.std.specs.Prelude.{Bool, true, false, cond, not, if◌then◌else◌}
use Rattle.std.specs.List.{sum, sum_by}
use Rattle.std.proofs.lemmas.List.Sums.{sum_by-append}
use Rattle.netflow_five.specs.Engines.{Engine, sent_by}
use Rattle.netflow_five.specs.Gaps.{IsUnbroken, gap_between, gaps, is_loss, lost_among, next_sequence, resets_among}
use Rattle.netflow_five.specs.Joining.{IsJoined, Meet}
use Rattle.netflow_five.specs.Losses.{Tells}
use Rattle.netflow_five.specs.declared.engine_line.EngineLine.{EngineLine}
use Rattle.netflow_five.specs.declared.seq_mark.SeqMark.{SeqMark}
use Rattle.netflow_five.proofs.GapSums.{gaps_join, lost_among-append, lost_alone, lost_one, none_lost_yet, none_reset_yet, no_reset, resets_among-append, resets_alone}
use Rattle.netflow_five.proofs.Senders.{sent_by-append}

-- a gap leads from the number that comes next to the second's
pub gap_leads_on : (first second : SeqMark) → second.sequence < 2 ^ 32 → (next_sequence first + gap_between first second) % 2 ^ 32 ≡ second.sequence
gap_leads_on first second fits = omega arith

gap_none : (first second : SeqMark) → second.sequence ≡ next_sequence first → gap_between first second ≡ 0
gap_none first second next = omega arith

-- datagrams of which each follows the one before have no gaps
pub none_missing : (sent : List SeqMark) → IsUnbroken sent → (lost_among (gaps sent) ≡ 0) × (resets_among (gaps sent) ≡ 0)
none_missing [] unbroken = (none_lost_yet, none_reset_yet)
none_missing (mark ∷ []) unbroken = (none_lost_yet, none_reset_yet)
none_missing (first ∷ second ∷ later) (next, unbroken) =
    let rest = none_missing (second ∷ later) unbroken in
    let gap = gap_none first second next in
    let lost : lost_among (gaps (first ∷ second ∷ later)) ≡ lost_among (gap_between first second ∷ []) + lost_among (gaps (second ∷ later)) =
    lost_among-append (gap_between first second ∷ []) (gaps (second ∷ later)) in
    let resets : resets_among (gaps (first ∷ second ∷ later)) ≡ resets_among (gap_between first second ∷ []) + resets_among (gaps (second ∷ later)) =
    resets_among-append (gap_between first second ∷ []) (gaps (second ∷ later)) in
    let one = lost_one (gap_between first second) (omega arith) in
    let none = no_reset (gap_between first second) (omega arith) in
    (omega (arith, rest.0), omega (arith, rest.1))

pub unbroken_line : (sent : List SeqMark) (line : EngineLine) → IsUnbroken sent → Tells sent line → (line.lost ≡ 0) × (line.resets ≡ 0)
unbroken_line sent line unbroken h =
    let none = none_missing sent unbroken in
    (h.lost ∙ none.0, h.resets ∙ none.1)

gaps_meet : (sent later : List SeqMark) (gap : ℕ) → Meet sent later gap → gaps (sent ++ later) ≡ gaps sent ++ gap ∷ gaps later
gaps_meet sent later gap m =
    ap (λ (ms : List SeqMark). gaps (ms ++ later)) m.ends ∙ ap (λ (ms : List SeqMark). gaps ((m.before ++ m.last ∷ []) ++ ms)) m.begins
    ∙ gaps_join m.before m.last m.first m.after
    ∙ ap (λ (ms : List SeqMark). gaps ms ++ gap_between m.last m.first ∷ gaps (m.first ∷ m.after)) (sym m.ends)
    ∙ ap (λ (ms : List SeqMark). gaps sent ++ gap_between m.last m.first ∷ gaps ms) (sym m.begins)
    ∙ ap (λ (g : ℕ). gaps sent ++ g ∷ gaps later) (sym m.between)

lost_meet : (sent later : List SeqMark) (gap : ℕ) → Meet sent later gap
    → lost_among (gaps (sent ++ later)) ≡ lost_among (gaps sent) + lost_among (gaps later) + lost_among (gap ∷ [])
lost_meet sent later gap m =
    let all = ap lost_among (gaps_meet sent later gap m) ∙ lost_among-append (gaps sent) (gap ∷ gaps later) in
    let last : lost_among (gap ∷ gaps later) ≡ lost_among (gap ∷ []) + lost_among (gaps later) = lost_among-append (gap ∷ []) (gaps later) in
    omega arith

resets_meet : (sent later : List SeqMark) (gap : ℕ) → Meet sent later gap
    → resets_among (gaps (sent ++ later)) ≡ resets_among (gaps sent) + resets_among (gaps later) + resets_among (gap ∷ [])
resets_meet sent later gap m =
    let all = ap resets_among (gaps_meet sent later gap m) ∙ resets_among-append (gaps sent) (gap ∷ gaps later) in
    let last : resets_among (gap ∷ gaps later) ≡ resets_among (gap ∷ []) + resets_among (gaps later) = resets_among-append (gap ∷ []) (gaps later) in
    omega arith

sum_if : (b : Bool) (g : ℕ) → sum (cond b (g ∷ []) []) ≡ (if b then g else 0)
sum_if true g = omega arith
sum_if false g = refl

count_if : (b : Bool) → 0 + cond (not b) 1 0 ≡ (if b then 0 else 1)
count_if true = refl
count_if false = refl

-- datagrams that follow others of their engine add up with them, and the gap between them counts
pub joined_line : (engine : Engine) (marks others : List SeqMark) (line other both : EngineLine) (gap : ℕ)
    → Tells (sent_by engine marks) line → Tells (sent_by engine others) other
    → Tells (sent_by engine (marks ++ others)) both → Meet (sent_by engine marks) (sent_by engine others) gap → IsJoined line other gap both
joined_line engine marks others line other both gap a b c m =
    let sent = sent_by engine marks in
    let later = sent_by engine others in
    let whole = sent_by-append engine marks others in
    let flows = ap (sum_by (λ (mark : SeqMark). mark.count)) whole ∙ sum_by-append (λ (mark : SeqMark). mark.count) sent later in
    let lost = ap (λ (ms : List SeqMark). lost_among (gaps ms)) whole ∙ lost_meet sent later gap m in
    let resets = ap (λ (ms : List SeqMark). resets_among (gaps ms)) whole ∙ resets_meet sent later gap m in
    let gone = lost_alone gap ∙ sum_if (is_loss gap) gap in
    let anew = resets_alone gap ∙ count_if (is_loss gap) in
    record {
      flows = omega (arith, a.flows, b.flows, c.flows);
      lost = omega (arith, a.lost, b.lost, c.lost);
      resets = omega (arith, a.resets, b.resets, c.resets);
    }

-- two runs of an engine's datagrams meet in a gap
pub some_meet : (sent later : List SeqMark) → sent ≢ [] → later ≢ [] → (gap : ℕ) × Meet sent later gap
some_meet sent [] some none = absurd (none refl)
some_meet [] later some more = absurd (some refl)
some_meet (mark ∷ sent) (first ∷ after) some more =
    let end = last_of mark sent in
    (gap_between end.1 first, record { last = end.1; first = first; before = end.0; after = after; ends = end.2; begins = refl; between = refl })
  where
    last_of : (mark : SeqMark) (sent : List SeqMark) → (before : List SeqMark) × (last : SeqMark) × (mark ∷ sent ≡ before ++ last ∷ [])
    last_of mark [] = ([], mark, refl)
    last_of mark (next ∷ sent) = let end = last_of next sent in (mark ∷ end.0, end.1, ap (λ (ms : List SeqMark). mark ∷ ms) end.2)

-- an engine that sent none of some datagrams keeps its line where they follow, and where they come before
pub line_stays : (engine : Engine) (marks others : List SeqMark) (line : EngineLine) → sent_by engine others ≡ [] → Tells (sent_by engine marks) line
    → Tells (sent_by engine (marks ++ others)) line × Tells (sent_by engine (others ++ marks)) line
line_stays engine marks others line none h =
    let after : sent_by engine (marks ++ others) ≡ sent_by engine marks =
    sent_by-append engine marks others ∙ ap (λ (ms : List SeqMark). sent_by engine marks ++ ms) none
    ∙ append-nil (sent_by engine marks) in
    let before : sent_by engine (others ++ marks) ≡ sent_by engine marks =
    sent_by-append engine others marks ∙ ap (λ (ms : List SeqMark). ms ++ sent_by engine marks) none in
    (subst (λ (ms : List SeqMark). Tells ms line) (sym after) h, subst (λ (ms : List SeqMark). Tells ms line) (sym before) h)

-- an engine whose numbers have one gap
pub one_gap : (sent later : List SeqMark) (gap : ℕ) (line : EngineLine) → IsUnbroken sent → IsUnbroken later
    → Meet sent later gap → Tells (sent ++ later) line
    → (line.lost ≡ (if is_loss gap then gap else 0)) × (line.resets ≡ (if is_loss gap then 0 else 1))
one_gap sent later gap line a b m h =
    let first = none_missing sent a in
    let second = none_missing later b in
    let lost = lost_meet sent later gap m in
    let resets = resets_meet sent later gap m in
    let gone = lost_alone gap ∙ sum_if (is_loss gap) gap in
    let anew = resets_alone gap ∙ count_if (is_loss gap) in
    (omega (arith, h.lost, first.0, second.0), omega (arith, h.resets, first.1, second.1))
