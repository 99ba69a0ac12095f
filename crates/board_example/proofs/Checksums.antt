-- A checksum that is written behind the other words makes a reading whole.
use Rattle.std.specs.List.{sum}
use Rattle.std.proofs.Common.{◌≡◌, ◌∙◌, ℕ, ◌-◌, ◌%◌, ◌^◌, true, List, length, set, sym, ap, arith}
use Rattle.std.proofs.lemmas.Bool.{eq-eqb}
use Rattle.std.proofs.lemmas.List.{get_or-set_same, take-set}
use Rattle.board_example.specs.Readings.{checksum_of, is_whole}
use Rattle.seat_history.specs.declared.words.TheConstants.{WIDTH}

pub whole_after : (words : List ℕ) → length words ≡ WIDTH → is_whole (set words (WIDTH - 1) (checksum_of words)) ≡ true
whole_after words long =
    let last = checksum_of words in eq-eqb _ _ (get_or-set_same words (WIDTH - 1) last 0 (omega arith) ∙ ap (λ l. sum l % 2 ^ 64) (sym (take-set words (WIDTH - 1) last)))
