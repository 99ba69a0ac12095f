-- The lists of a scan: the nodes that its words name, and the retired ones, of which it keeps a part.
use Rattle.std.proofs.Common.{◌≡◌, ◌≢◌, ℕ, ◌+◌, ◌-◌, ◌<◌, ◌≤◌, suc, zero, Bool, true, false, not, ◌||◌, ◌&&◌, List, [], ◌∷◌, ◌++◌, length, take}
use Rattle.std.proofs.Common.{filter, set, eqb, ltb, cond, eq-eqb, ne_eqb}
use Rattle.std.proofs.Common.{get_or, refl, sym, ap, ◌∙◌, append_assoc, arith, ⊎_elim, Result, Ok, Err}
use Rattle.std.proofs.lemmas.Bool.{cases_lt, le-ltb, lt-ltb, or_left, true≢false}
use Rattle.std.proofs.lemmas.List.{append-nil, drop_more, length-append, length-take-le}
use Rattle.std.proofs.lemmas.List.Elements.{filter_more}
use Rattle.std.proofs.lemmas.List.Filters.{FiltersInPlace, FiltersInPlace-more_no, FiltersInPlace-more_set, length-filter_both}
use Rattle.std.proofs.lemmas.List.Sorted.{list_any-IsPermutation, searched}
use Rattle.std.specs.List.Sorted.{IsBinarySearchResult, IsNonDecreasing, IsPermutation}
use Rattle.std.specs.Ordering.{nat_cmp}
use Rattle.std.specs.Result.{MatchResult, is_err}
use Rattle.step_rules.proofs.Numbers.Bags.{has_any}
use Rattle.step_rules.specs.Views.{is_freed, noted}
use Rattle.step_rules.specs.World.{Once, has}
use Rattle.step_rules.proofs.Numbers.Sets.{has_from}

has_swapped : (a b c : Bool) → (a || (b || c)) ≡ (b || (a || c))
has_swapped true true c = refl
has_swapped true false c = refl
has_swapped false b c = refl

-- a number at the end is there as one at the front
has_pushed : (xs : List ℕ) (x n : ℕ) → has (xs ++ x ∷ []) n ≡ has (x ∷ xs) n
has_pushed [] x n = refl
has_pushed (y ∷ xs) x n = ap (λ b. eqb y n || b) (has_pushed xs x n) ∙ has_swapped (eqb y n) (eqb x n) (has xs n)

pub has_noted : (x : ℕ) (xs : List ℕ) (n : ℕ) → x ≢ 0 → has (xs ++ (x - 1) ∷ []) n ≡ has (noted x xs) n
has_noted zero xs n some = absurd (some refl)
has_noted (suc m) xs n some = ap (λ y. has (xs ++ y ∷ []) n) (omega arith) ∙ has_pushed xs m n

-- what is noted rests on the numbers that were there, and how many
pub noted_same : (x : ℕ) (xs ys : List ℕ) → ((n : ℕ) → has xs n ≡ has ys n) → (n : ℕ) → has (noted x xs) n ≡ has (noted x ys) n
noted_same zero xs ys same n = same n
noted_same (suc m) xs ys same n = ap (λ b. eqb m n || b) (same n)

pub noted_length : (x : ℕ) (xs ys : List ℕ) → length xs ≡ length ys → length (noted x xs) ≡ length (noted x ys)
noted_length zero xs ys same = same
noted_length (suc m) xs ys same = ap suc same

-- a sort leaves the same numbers there
has_permuted : (xs ys : List ℕ) → IsPermutation xs ys → (n : ℕ) → has ys n ≡ has xs n
has_permuted xs ys p n = has_any ys n ∙ (sym (list_any-IsPermutation (λ x. eqb x n) xs ys p) ∙ sym (has_any xs n))

none_from : (xs : List ℕ) (n : ℕ) → ((k : ℕ) → k < length xs → get_or xs k 0 ≢ n) → has xs n ≡ false
none_from [] n other = refl
none_from (x ∷ xs) n other = ap (λ b. b || has xs n) (ne_eqb x n (other 0 (omega arith))) ∙ none_from xs n (λ k lt. other (suc k) (omega arith))

found_or_not : (xs : List ℕ) (n : ℕ) (r : Result ℕ ℕ)
    → MatchResult r (λ i. (i < length xs) × (get_or xs i 0 ≡ n)) (λ i. (i ≤ length xs) × ((k : ℕ) → k < i → get_or xs k 0 < n) × ((k : ℕ) → i ≤ k → k < length xs
    → n < get_or xs k 0))
    → is_err r ≡ not (has xs n)
found_or_not xs n (Ok i) at = ap not (sym (ap (has xs) (sym at.1) ∙ has_from xs i 0 at.0))
found_or_not xs n (Err i) at = ap not (sym (none_from xs n (λ k lt e. ⊎_elim
    (λ below. absurd (let l = at.1 k below in omega arith))
    (λ above. absurd (let l = at.2 k above lt in omega arith))
    (cases_lt k i))))

-- a search in numbers that rise fails just where the number isn't there
pub not_found : (xs : List ℕ) (n : ℕ) (r : Result ℕ ℕ) → IsNonDecreasing xs → IsBinarySearchResult (λ y. nat_cmp y n) xs r → is_err r ≡ not (has xs n)
not_found xs n r rise at = found_or_not xs n r (searched xs n r at (λ i j le lt. rise i j 0 le lt))

ltb_suc : (i k : ℕ) → ltb i k ≡ ltb (suc i) (suc k)
ltb_suc i k = ⊎_elim (λ l. lt-ltb i k l ∙ sym (lt-ltb (suc i) (suc k) (omega arith))) (λ l. le-ltb i k l ∙ sym (le-ltb (suc i) (suc k) (omega arith))) (cases_lt i k)

-- where no number stands twice, one stands among the first k just where its place is before k
has_early : (xs : List ℕ) (i k d : ℕ) → Once xs → i < length xs → has (take k xs) (get_or xs i d) ≡ ltb i k
has_early [] i k d once lt = absurd (omega arith)
has_early (x ∷ xs) i zero d once lt = sym (le-ltb i 0 (omega arith))
has_early (x ∷ xs) zero (suc k) d once lt = or_left (eqb x x) (has (take k xs) x) (eq-eqb x x refl) ∙ sym (lt-ltb 0 (suc k) (omega arith))
has_early (x ∷ xs) (suc i) (suc k) d once lt = ap (λ b. b || has (take k xs) (get_or xs i d)) (ne_eqb x (get_or xs i d) (λ e.
    true≢false (sym (has_from xs i d (omega arith)) ∙ (ap (has xs) (sym e) ∙ once.0)))) ∙ (has_early xs i k d once.1 (omega arith) ∙ ltb_suc i k)

-- a part of a list is no longer than it
length_part : (f : ℕ → Bool) (xs : List ℕ) → length (filter f xs) ≤ length xs
length_part f xs = omega (arith, length-filter_both f (λ n. not (f n)) (λ n. refl) xs)

-- the nodes that a scan frees, where its old nodes are the first ones of those retired
abbrev pub frees_first : ℕ → List ℕ → List ℕ → ℕ → Bool
frees_first old xs found = is_freed (record { next = 0; old = take old xs; found = found })

-- of the first i nodes of xs, those that don't pass f are the first k ones of ys, and the others were added to the free ones; from i on ys is as xs
pub record Parted (f : ℕ → Bool) (xs ys free free' : List ℕ) (k i : ℕ) : Type 0 where
  pub kept : FiltersInPlace (λ (n : ℕ). not (f n)) xs ys k i
  pub freed : free' ≡ free ++ filter f (take i xs)

module _ (f : ℕ → Bool) (xs ys free free' : List ℕ) (k i : ℕ) (parted : Parted f xs ys free free' k i) where
  pub parted_room : length free' + length xs ≤ length free + length xs + i
  parted_room = let w = parted.kept.within in omega (arith, ap (length {A = ℕ}) parted.freed, length-append free (filter f (take i xs)), length_part f (take i xs), length-take-le i xs w)

  module _ (x : ℕ) (inside : i < length xs) (is : x ≡ get_or ys i x) where
    -- the node at i is as it was
    pub parted_read : get_or xs i x ≡ x
    parted_read = let long = parted.kept.long in
        ap (λ l. get_or l 0 x) (sym (drop_more xs i x inside) ∙ (sym parted.kept.rest ∙ drop_more ys i x (omega arith))) ∙ sym is

    more : (b : Bool) → f x ≡ b → filter f (take (i + 1) xs) ≡ filter f (take i xs) ++ cond b (x ∷ []) []
    more b e = filter_more f xs i x inside ∙ ap (λ y. filter f (take i xs) ++ cond (f y) (y ∷ []) []) parted_read ∙ ap (λ c. filter f (take i xs) ++ cond c (x ∷ []) []) e

    pub parted_free : f x ≡ true → Parted f xs ys free (free' ++ x ∷ []) k (i + 1)
    parted_free e = let long = parted.kept.long in record {
      kept = FiltersInPlace-more_no parted.kept (omega arith) (ap not e) is;
      freed = ap (λ l. l ++ x ∷ []) parted.freed ∙ (append_assoc free (filter f (take i xs)) (x ∷ []) ∙ ap (λ l. free ++ l) (sym (more true e)));
    }

    pub parted_kept : f x ≡ false → Parted f xs (set ys k x) free free' (k + 1) (i + 1)
    parted_kept e = let long = parted.kept.long in record {
      kept = FiltersInPlace-more_set parted.kept (omega arith) (ap not e) is;
      freed = parted.freed ∙ ap (λ l. free ++ l) (sym (more false e ∙ append-nil (filter f (take i xs))));
    }

-- the test that tells whether the node at i is free
pub frees_test : (old i x : ℕ) (xs found sorted : List ℕ) (b : Bool) → Once xs → i < length xs → get_or xs i x ≡ x → IsPermutation found sorted
    → b ≡ (ltb i old && not (has sorted x))
    → frees_first old xs found x ≡ b
frees_test old i x xs found sorted b once inside is same e =
    ap (λ c. c && not (has found x)) (ap (has (take old xs)) (sym is) ∙ has_early xs i old x once inside)
    ∙ (ap (λ c. ltb i old && not c) (sym (has_permuted found sorted same x)) ∙ sym e)
