-- What each call leaves of a member's counts.
use Rattle.std.proofs.Common.{◌≡◌, ◌≢◌, ℕ, ◌+◌, ◌%◌, ◌^◌, ◌||◌, Bool, true, false, List, ◌++◌, All, cond, refl, sym, ap, subst, ◌∙◌, ne_eqb}
use Rattle.std.proofs.lemmas.List.Elements.{All-append}
use Rattle.big_atomic.proofs.Adding.{all_more, counts_both, counts_more, counts_same}
use Rattle.big_atomic.specs.Registers.{tells_counted, tells_unfit}
use Rattle.big_atomic.specs.Stands.{StandsMore}
use Rattle.board_example.specs.Readings.{is_whole}
use Rattle.board_example.specs.Rules.{IsOurCall, Kept, fits_board, is_torn, is_yes}
use Rattle.seat_history.specs.declared.call.Call.{Call}
use Rattle.seat_history.specs.declared.reply.Reply.{Reply}
use Rattle.step_rules.specs.SeatData.{SeatData}
use Rattle.step_rules.specs.declared.view.Stand.{Stand}

or_false : (b : Bool) → (b || false) ≡ b
or_false true = refl
or_false false = refl

or_true : (b : Bool) → (b || true) ≡ true
or_true true = refl
or_true false = refl

-- any record fits the counter
pub counter_fits : (words : List ℕ) → fits_board 0 words ≡ true
counter_fits words = or_true (is_whole words)

-- elsewhere than in the counter only whole readings fit
pub fits_elsewhere : (reg : ℕ) (words : List ℕ) → reg ≢ 0 → fits_board reg words ≡ is_whole words
fits_elsewhere reg words other = ap (λ b. is_whole words || b) (ne_eqb reg 0 other) ∙ or_false (is_whole words)

module _ {asked : Call} {told : Reply} {before after : SeatData} {won torn : ℕ} (kept : Kept before.view.stands won torn) (m : StandsMore asked told before after) (ours : IsOurCall asked) where
  -- neither count changes
  pub kept_same : tells_counted 0 asked told ≡ false → tells_unfit fits_board is_whole asked told ≡ false → Kept after.view.stands won torn
  kept_same y t = record {
    ours = all_more m IsOurCall kept.ours ours;
    yes_is = counts_same m (tells_counted 0) kept.yes_is y;
    torn_is = counts_same m (tells_unfit fits_board is_whole) kept.torn_is t;
  }

  -- a try to count
  pub kept_try : (b : Bool) (now : ℕ) → now ≡ (won + cond b 1 0) % 2 ^ 64 → tells_counted 0 asked told ≡ b → tells_unfit fits_board is_whole asked told ≡ false
      → Kept after.view.stands now torn
  kept_try b now is y t = record {
    ours = all_more m IsOurCall kept.ours ours;
    yes_is = is ∙ counts_more m (tells_counted 0) b kept.yes_is y;
    torn_is = counts_same m (tells_unfit fits_board is_whole) kept.torn_is t;
  }

  -- a reading
  pub kept_reading : (b : Bool) (now : ℕ) → now ≡ (torn + cond b 1 0) % 2 ^ 64 → tells_counted 0 asked told ≡ false → tells_unfit fits_board is_whole asked told ≡ b
      → Kept after.view.stands won now
  kept_reading b now is y t = record {
    ours = all_more m IsOurCall kept.ours ours;
    yes_is = counts_same m (tells_counted 0) kept.yes_is y;
    torn_is = is ∙ counts_more m (tells_unfit fits_board is_whole) b kept.torn_is t;
  }

-- the stands of two seats
pub kept_both : {stands others : List Stand} {won torn other_won other_torn : ℕ} (news : List Stand) → Kept stands won torn → Kept others other_won other_torn → news ≡ stands ++ others
    → Kept news ((won + other_won) % 2 ^ 64) ((torn + other_torn) % 2 ^ 64)
kept_both {stands} {others} news a b is = record {
  ours = subst (λ l. All (λ (s : Stand). IsOurCall s.call) l) (sym is) (All-append (λ (s : Stand). IsOurCall s.call) stands others a.ours b.ours);
  yes_is = counts_both is_yes stands others news a.yes_is b.yes_is is;
  torn_is = counts_both is_torn stands others news a.torn_is b.torn_is is;
}
