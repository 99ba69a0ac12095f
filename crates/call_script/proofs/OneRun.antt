-- An order of lines has one plain run, and an order and the replies have one run.
use Rattle.std.specs.List.{AllByRecursion, cons_option, range_with_len}
use Rattle.std.specs.List.Sorted.{IsPermutation}
use Rattle.std.proofs.Common.{All, ◌≡◌, ◌∙◌, ℕ, zero, suc, ◌<◌, List, [], ◌∷◌, length, get_or, sym, ap, subst, arith}
use Rattle.std.proofs.lemmas.List.{ext_get_or}
use Rattle.std.proofs.lemmas.List.Elements.{All-from_get_or, recursion_from_All}
use Rattle.std.proofs.lemmas.List.FromFn.{get_or-range_with_len, length-range_with_len}
use Rattle.std.proofs.lemmas.List.Sorted.{All-permutation, Contains-permutation}
use Rattle.std.proofs.lemmas.Option.{slice_get-get_or}
use Rattle.seat_history.proofs.SamePairs.{same_pairs}
use Rattle.seat_history.specs.History.{object_from}
use Rattle.seat_history.specs.Object.{blank_object}
use Rattle.seat_history.specs.Pairs.{ArePairsOf}
use Rattle.seat_history.specs.declared.entry.Entry.{Entry}
use Rattle.seat_history.specs.declared.reply.Reply.TheVariants.{Done}
use Rattle.step_rules.specs.Closing.{live_nodes}
use Rattle.step_rules.specs.declared.plan.Plan.{Plan}
use Rattle.call_script.specs.PlainRun.{RunsPlainIn}
use Rattle.call_script.specs.Run.{Course, IsOrderOf, RunsIn, begun, course_from, items_at, made_in, registers_in}
use Rattle.call_script.specs.declared.driven.Driven.{Driven}
use Rattle.call_script.specs.declared.driven.PlainRun.{PlainRun}

module _ {X : Type 0} (xs ys : List X) (count : ℕ) (d : X) (long : length xs ≡ count) (also : length ys ≡ count) where
  first_same : (place : ℕ) (order : List ℕ) → place < count → items_at xs (place ∷ order) ≡ items_at ys (place ∷ order)
      → (get_or xs place d ≡ get_or ys place d) × (items_at xs order ≡ items_at ys order)
  first_same place order within same =
      let whole : get_or xs place d ∷ items_at xs order ≡ get_or ys place d ∷ items_at ys order =
      sym (ap (λ o. cons_option o (items_at xs order)) (slice_get-get_or xs place d (omega arith))) ∙ same ∙ ap (λ o. cons_option o (items_at ys order)) (slice_get-get_or ys place d (omega arith)) in
      (cc whole, cc whole)

  -- items that are the same in an order are the same at each of its places
  same_at : (order : List ℕ) (k e : ℕ) → AllByRecursion (λ place. place < count) order → items_at xs order ≡ items_at ys order → k < length order
      → get_or xs (get_or order k e) d ≡ get_or ys (get_or order k e) d
  same_at [] k e within same lt = absurd (omega arith)
  same_at (place ∷ order) zero e within same lt = (first_same place order within.0 same).0
  same_at (place ∷ order) (suc k) e within same lt = same_at order k e within.1 (first_same place order within.0 same).1 (omega arith)

  same_items : (order : List ℕ) → IsPermutation (range_with_len 0 count) order → items_at xs order ≡ items_at ys order → xs ≡ ys
  same_items order each same =
      let places = range_with_len 0 count in
      let counted = length-range_with_len 0 count in
      let below : All (λ place. place < count) places = All-from_get_or (λ place. place < count) places 0 (λ i lt. omega (arith, get_or-range_with_len 0 count i 0 (omega arith))) in
      let within = recursion_from_All (λ place. place < count) order (All-permutation (λ place. place < count) places order each below) in
      ext_get_or d xs ys (long ∙ sym also) (λ i lt.
      let at = Contains-permutation places order i each (i, omega arith, omega (arith, get_or-range_with_len 0 count i i (omega arith))) in
      ap (λ n. get_or xs n d) (sym at.2) ∙ same_at order at.0 i within same at.1 ∙ ap (λ n. get_or ys n d) at.2)

pub one_plain_run : (order : List ℕ) (lines : List Entry) (a b : PlainRun) → IsOrderOf lines order → RunsPlainIn order lines a → RunsPlainIn order lines b → a ≡ b
one_plain_run order lines a b is first second =
    let values = (object_from blank_object (items_at lines order)).contents.values in
    let replies = same_items a.replies b.replies (length lines) Done first.each_replied second.each_replied order is.each_once (first.replies ∙ sym second.replies) in
    let registers = first.registers ∙ sym second.registers in
    let pairs = same_pairs values a.pairs b.pairs first.pairs second.pairs first.in_range second.in_range in
    λ i. record { replies = replies i; registers = registers i; pairs = pairs i }

pub one_run : (p : Plan) (order : List ℕ) (lines : List Entry) (a b : Driven) → RunsIn p order lines a → RunsIn p order lines b → a.replies ≡ b.replies → a ≡ b
one_run p order lines a b first second replies =
    let same : made_in lines a.replies order ≡ made_in lines b.replies order = ap (λ rs. made_in lines rs order) replies in
    let end : course_from p begun (made_in lines a.replies order) ≡ course_from p begun (made_in lines b.replies order) = ap (course_from p begun) same in
    let registers = first.registers ∙ ap (λ (c : Course). registers_in c.object 16) end ∙ sym second.registers in
    let pairs = same_pairs (course_from p begun (made_in lines b.replies order)).object.contents.values a.pairs b.pairs
    (subst (λ (c : Course). ArePairsOf c.object.contents.values a.pairs) end first.pairs) second.pairs first.in_range second.in_range in
    let live : a.counts.live ≡ b.counts.live = first.live ∙ ap (λ (c : Course). live_nodes p c.log) end ∙ sym second.live in
    let free : a.counts.free ≡ b.counts.free = omega (arith, first.whole, second.whole, live) in
    let retired : a.counts.retired ≡ b.counts.retired = first.retired ∙ sym second.retired in
    λ i. record { replies = replies i; registers = registers i; pairs = pairs i; counts = record { free = free i; live = live i; retired = retired i } }
