-- The gaps of datagrams in a row, and what they sum up to.
use Rattle.std.proofs.Common.{◌≡◌, ◌∙◌, ℕ, ◌+◌, ◌^◌, ◌<◌, ◌≤◌, Bool, cond, not, List, [], ◌∷◌, ◌++◌, ap, refl, arith}
use Rattle.std.specs.List.{filter, sum}
use Rattle.std.proofs.lemmas.Bool.{le-ltb, lt-ltb}
use Rattle.std.proofs.lemmas.List.Elements.{filter-append}
use Rattle.std.proofs.lemmas.List.Sums.{sum_by-append}
use Rattle.netflow_five.specs.Gaps.{gap_between, gaps, is_loss, lost_among, resets_among}
use Rattle.netflow_five.specs.declared.seq_mark.SeqMark.{SeqMark}

-- where datagrams follow others, one gap more lies between the last of these and the first of those
pub gaps_join : (before : List SeqMark) (last first : SeqMark) (later : List SeqMark)
    → gaps ((before ++ last ∷ []) ++ first ∷ later) ≡ gaps (before ++ last ∷ []) ++ gap_between last first ∷ gaps (first ∷ later)
gaps_join [] last first later = refl
gaps_join (a ∷ []) last first later = refl
gaps_join (a ∷ b ∷ before) last first later = ap (λ (gs : List ℕ). gap_between a b ∷ gs) (gaps_join (b ∷ before) last first later)

pub lost_among-append : (gs hs : List ℕ) → lost_among (gs ++ hs) ≡ lost_among gs + lost_among hs
unfolding lost_among
lost_among-append gs hs = ap sum (filter-append is_loss gs hs) ∙ sum_by-append (λ (n : ℕ). n) (filter is_loss gs) (filter is_loss hs)

pub resets_among-append : (gs hs : List ℕ) → resets_among (gs ++ hs) ≡ resets_among gs + resets_among hs
unfolding resets_among
resets_among-append gs hs = sum_by-append (λ (g : ℕ). cond (not (is_loss g)) 1 0) gs hs

pub none_lost_yet : lost_among [] ≡ 0
unfolding lost_among
none_lost_yet = refl

pub none_reset_yet : resets_among [] ≡ 0
unfolding resets_among
none_reset_yet = refl

-- what a single gap comes to, by whether it is a loss
pub lost_alone : (g : ℕ) → lost_among (g ∷ []) ≡ sum (cond (is_loss g) (g ∷ []) [])
unfolding lost_among
lost_alone g = refl

pub resets_alone : (g : ℕ) → resets_among (g ∷ []) ≡ 0 + cond (not (is_loss g)) 1 0
unfolding resets_among
resets_alone g = refl

-- a gap below 2^31 is as many lost flows, and no reset
pub lost_one : (g : ℕ) → g < 2 ^ 31 → lost_among (g ∷ []) ≡ g
lost_one g below =
    let alone : lost_among (g ∷ []) ≡ 0 + g = lost_alone g ∙ ap (λ (b : Bool). sum (cond b (g ∷ []) [])) (lt-ltb g (2 ^ 31) below) in
    omega arith

pub no_reset : (g : ℕ) → g < 2 ^ 31 → resets_among (g ∷ []) ≡ 0
no_reset g below = resets_alone g ∙ ap (λ (b : Bool). 0 + cond (not b) 1 0) (lt-ltb g (2 ^ 31) below)

-- a greater one is a reset, and no lost flow
pub none_lost : (g : ℕ) → 2 ^ 31 ≤ g → lost_among (g ∷ []) ≡ 0
none_lost g above = lost_alone g ∙ ap (λ (b : Bool). sum (cond b (g ∷ []) [])) (le-ltb g (2 ^ 31) above)

pub one_reset : (g : ℕ) → 2 ^ 31 ≤ g → resets_among (g ∷ []) ≡ 1
one_reset g above = resets_alone g ∙ ap (λ (b : Bool). 0 + cond (not b) 1 0) (le-ltb g (2 ^ 31) above)
