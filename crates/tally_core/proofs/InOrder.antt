-- The stands that add pairs, by rising number, are those of all pairs in order.
use Rattle.std.proofs.Common.{◌≡◌, ◌∙◌, ℕ, ◌<◌, suc, zero, All, Bool, true, false, cond, eqb, eq-eqb, List, [], ◌∷◌, count_by, length, length-append, refl, sym, subst, arith}
use Rattle.std.specs.List.{AllByRecursion, AllZip}
use Rattle.std.proofs.lemmas.List.Elements.{All-cons, All-head, All-tail}
use Rattle.std.proofs.lemmas.List.Sorted.{length_permutation}
use Rattle.std.proofs.lemmas.List.Sums.{length-filter}
use Rattle.big_atomic.proofs.Counting.{split_count, total}
use Rattle.flow_fold.specs.Flows.{Flows}
use Rattle.step_rules.specs.Line.{stands_by}
use Rattle.step_rules.specs.declared.view.Stand.{Stand}
use Rattle.tally_core.proofs.Attempts.{zip_append}
use Rattle.tally_core.proofs.Batches.{all_drawn}
use Rattle.tally_core.proofs.Joined.{joined_flat}
use Rattle.tally_core.specs.Adding.{Adds, adding_by, adding_in, is_adding}
use Rattle.tally_core.specs.Draws.{batch_of, batches_of, drawn_pairs}
use Rattle.tally_core.specs.Tallying.{joined}
use Rattle.worker_gate.specs.Numbers.{EachOnce}

zip_length : {A B : Type 0} (R : A → B → Type 0) (a : List A) (b : List B) → AllZip R a b → length a ≡ length b
zip_length R [] [] zip = omega arith
zip_length R [] (y ∷ b) zip = absurd zip
zip_length R (x ∷ a) [] zip = absurd zip
zip_length R (x ∷ a) (y ∷ b) zip = let rest = zip_length R a b zip.1 in omega arith

first_in_order : (n : ℕ) (lists : ℕ → Flows) (stands : List Stand) → ((w : ℕ) → w < n → AllZip Adds (lists w) (adding_in (stands_by w stands)))
    → AllZip Adds (joined n lists) (adding_by n stands)
first_in_order zero lists stands each = tt
first_in_order (suc n) lists stands each = zip_append Adds (joined n lists) (lists n) (adding_by n stands) (adding_in (stands_by n stands))
    (first_in_order n lists stands (λ w l. each w (omega arith))) (each n (omega arith))

-- where each worker's stands add the pairs of its batches, all workers' add those of all
pub in_order : (workers : ℕ) (pairs : Flows) (drawn : ℕ → List ℕ) (stands : List Stand)
    → ((w : ℕ) → w < workers → AllZip Adds (drawn_pairs pairs (drawn w)) (adding_in (stands_by w stands)))
    → AllZip Adds (drawn_pairs pairs (joined workers drawn)) (adding_by workers stands)
in_order workers pairs drawn stands each = subst (λ (l : Flows). AllZip Adds l (adding_by workers stands)) (sym (joined_flat (batch_of pairs) workers drawn))
    (first_in_order workers (λ w. drawn_pairs pairs (drawn w)) stands each)

count_to : (n : ℕ) (stands : List Stand) → length (adding_by n stands) ≡ total n (λ x. count_by is_adding (stands_by x stands))
count_to zero stands = omega arith
count_to (suc n) stands =
    let front = count_to n stands in
    let last = length-filter is_adding (stands_by n stands) in
    omega (arith, length-append (adding_by n stands) (adding_in (stands_by n stands)))

-- as many stands add something as there are pairs
pub counted : (n : ℕ) (pairs : Flows) (batches : List ℕ) (stands : List Stand) → EachOnce (batches_of (length pairs)) batches → All (λ (s : Stand). s.by < n) stands
    → AllZip Adds (drawn_pairs pairs batches) (adding_by n stands) → count_by is_adding stands ≡ length pairs
counted n pairs batches stands once below zip =
    let long = length_permutation pairs (drawn_pairs pairs batches) (all_drawn pairs batches once) in
    split_count is_adding n stands below ∙ (sym (count_to n stands) ∙ (sym (zip_length Adds (drawn_pairs pairs batches) (adding_by n stands) zip) ∙ long))

-- what holds of each worker's stands holds of all
pub all_stands_are : (P : Stand → Type 0) (n : ℕ) (stands : List Stand) → All (λ (s : Stand). s.by < n) stands
    → ((w : ℕ) → w < n → AllByRecursion P (stands_by w stands)) → All P stands
all_stands_are P n [] below each = λ i d l. absurd (omega (arith, l))
all_stands_are P n (s ∷ stands) below each =
    let there = All-head (λ (t : Stand). t.by < n) s stands below in
    let first = (subst (λ b. AllByRecursion P (cond b (s ∷ stands_by s.by stands) (stands_by s.by stands))) (eq-eqb s.by s.by refl) (each s.by there)).0 in
    All-cons P s stands first
    (all_stands_are P n stands (All-tail (λ (t : Stand). t.by < n) s stands below) (λ w l. later (stands_by w stands) (eqb s.by w) (each w l)))
  where
    later : (r : List Stand) (b : Bool) → AllByRecursion P (cond b (s ∷ r) r) → AllByRecursion P r
    later r true all = all.1
    later r false all = all
