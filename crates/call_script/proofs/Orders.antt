-- The order of a script itself.
use Rattle.std.specs.Prelude.{slice_get}
use Rattle.std.specs.List.{range_with_len}
use Rattle.std.specs.List.Sorted.{IsStrictlyIncreasing}
use Rattle.std.proofs.Common.{All, ◌≡◌, ◌∙◌, ℕ, ◌+◌, Some, List, [], ◌∷◌, ◌++◌, length, append_assoc, refl, sym, ap, subst, arith}
use Rattle.std.proofs.lemmas.List.{length-append}
use Rattle.std.proofs.lemmas.List.FromFn.{get_or-range_with_len, length-range_with_len}
use Rattle.std.proofs.lemmas.List.Kept.{IsStrictlyIncreasing-filter}
use Rattle.std.proofs.lemmas.List.Sorted.{IsPermutation-refl}
use Rattle.seat_history.proofs.Histories.{length-replies_from}
use Rattle.seat_history.specs.History.{object_from, replies_from}
use Rattle.seat_history.specs.Object.{blank_object}
use Rattle.seat_history.specs.Pairs.{ArePairsOf, IsPairInRange}
use Rattle.seat_history.specs.declared.entry.Entry.{Entry}
use Rattle.call_script.specs.PlainRun.{IsPlainRun}
use Rattle.call_script.specs.Run.{IsOrderOf, is_line_of, items_at, registers_in}
use Rattle.call_script.specs.declared.driven.PlainRun.{PlainRun}

pub get_behind : {X : Type 0} (front : List X) (x : X) (back : List X) → slice_get (front ++ x ∷ back) (length front) ≡ Some x
get_behind [] x back = refl
get_behind (y ∷ front) x back = get_behind front x back

items_behind : {X : Type 0} (front back : List X) → items_at (front ++ back) (range_with_len (length front) (length back)) ≡ back
items_behind front [] = refl
items_behind front (x ∷ back) =
    let longer : length front + 1 ≡ length (front ++ x ∷ []) = omega (arith, length-append front (x ∷ [])) in
    let whole = append_assoc front (x ∷ []) back in
    let rest : items_at (front ++ x ∷ back) (range_with_len (length front + 1) (length back)) ≡ back =
    (λ i. items_at (sym whole i) (range_with_len (longer i) (length back))) ∙ items_behind (front ++ x ∷ []) back in
    rw (get_behind front x back) (ap (λ items. x ∷ items) rest)

-- all items, at their places
pub all_items : {X : Type 0} (items : List X) (count : ℕ) → count ≡ length items → items_at items (range_with_len 0 count) ≡ items
all_items items count is = ap (λ n. items_at items (range_with_len 0 n)) is ∙ items_behind [] items

pub counted_up : (count : ℕ) → IsStrictlyIncreasing (range_with_len 0 count)
counted_up count k within =
    let long = length-range_with_len 0 count in
    omega (arith, get_or-range_with_len 0 count k 0 (omega arith), get_or-range_with_len 0 count (k + 1) 0 (omega arith))

pub script_order : (lines : List Entry) → IsOrderOf lines (range_with_len 0 (length lines))
script_order lines = record {
  each_once = IsPermutation-refl (range_with_len 0 (length lines));
  rising = λ caller. IsStrictlyIncreasing-filter (is_line_of lines caller) (range_with_len 0 (length lines)) (counted_up (length lines));
}

-- what comes of the lines in the script's own order
pub run_in_script_order : (lines : List Entry) (run : PlainRun) → run.replies ≡ replies_from blank_object lines
    → run.registers ≡ registers_in (object_from blank_object lines) 16 → ArePairsOf (object_from blank_object lines).contents.values run.pairs
    → All IsPairInRange run.pairs → IsPlainRun lines run
run_in_script_order lines run replies registers pairs in_range =
    let count : length run.replies ≡ length lines = ap length replies ∙ length-replies_from blank_object lines in
    let whole = all_items lines (length lines) refl in (
      range_with_len 0 (length lines),
      script_order lines,
      record {
        each_replied = count;
        replies = all_items run.replies (length lines) (sym count) ∙ replies ∙ ap (replies_from blank_object) (sym whole);
        registers = registers ∙ ap (λ (es : List Entry). registers_in (object_from blank_object es) 16) (sym whole);
        pairs = subst (λ (es : List Entry). ArePairsOf (object_from blank_object es).contents.values run.pairs) (sym whole) pairs;
        in_range = in_range;
      },
    )
