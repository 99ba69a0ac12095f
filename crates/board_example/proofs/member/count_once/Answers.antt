use Rattle.std.proofs.Common.{ℕ, ◌+◌, ◌%◌, ◌^◌, ◌≡◌, ◌<◌, List, ap, arith, length, not, refl, rules, slice_index, slice_set, subst, sym, ◌∙◌}
use Rattle.std.proofs.lemmas.Grind.{common_steps}
use Rattle.big_atomic.proofs.Adding.{answered_more, none_after, yes_counts}
use Rattle.big_atomic.proofs.Missing.{missed_has_seen_more}
use Rattle.big_atomic.specs.Calls.{IsSwapped}
use Rattle.board_example.proofs.Making.{counter_fits, kept_same, kept_try}
use Rattle.board_example.proofs.member.count_once.Goals as goal

one_more : (old : List ℕ) (v : ℕ) → 0 < length old → v ≡ (slice_index old 0 + 1) % 2 ^ 64 → slice_index (slice_set old 0 v) 0 ≡ (slice_index old 0 + 1) % 2 ^ 64
one_more old v l e = grind (arith, common_steps)

pub returns : goal.returns
returns c =
    let w = c.requires.works in
    let l = c.load-old.ensures.loaded in
    let e = c.compare_and_swap-answer.ensures.swapped in
    let old = c.load-old.result in
    let count = (slice_index old 0 + 1) % 2 ^ 64 in
    let new = slice_set old 0 count in
    let next = one_more old count (search rules) refl in
    let loaded = kept_same w.kept (answered_more l.answered) (tt, tt) refl (ap not (counter_fits old)) in
    record {
      works = record {
        ready = c.compare_and_swap-answer.ensures.ready;
        none_held = none_after e.hold (none_after l.hold w.none_held);
        kept = kept_try loaded (answered_more e.answered) (λ _. counter_fits new, λ _. next) c.is_yes.result _ c.more-member.ensures
            (yes_counts 0 old new c.compare_and_swap-answer.result ∙ sym c.is_yes.ensures) refl;
      };
      stays = search rules;
      missed = λ no. missed_has_seen_more c.args.shared.now 0 old new c.args.member.now.seat c.load-old.new.seat c.compare_and_swap-answer.new.seat w.ready.ours l
          (subst (λ a. IsSwapped 0 old new a c.load-old.new.seat c.compare_and_swap-answer.new.seat) no e);
    }
