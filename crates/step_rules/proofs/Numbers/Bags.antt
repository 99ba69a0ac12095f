-- Lists of nodes in which the order says nothing: how often a node stands in one.
use Rattle.std.proofs.Common.{◌≡◌, ◌≢◌, ℕ, ◌+◌, ◌-◌, ◌<◌, ◌≤◌, suc, zero, true, false, ◌||◌, List, [], ◌∷◌, ◌++◌}
use Rattle.std.proofs.Common.{length, take, eqb, cond, eq-eqb, ne_eqb, get_or, set, refl, sym, ap, ◌∙◌, subst, arith, ⊎_elim, length-take, length-set}
use Rattle.std.proofs.lemmas.Bool.{eqb-true, cases_Bool, cases_eq, or_cases, or_parts, false≢true, false_from_ne_true}
use Rattle.std.proofs.lemmas.List.{take_more}
use Rattle.std.proofs.lemmas.List.Sums.{sum_by-cons, sum_by-swap_remove}
use Rattle.std.specs.List.{list_any, sum_by, swap_remove}
use Rattle.step_rules.proofs.Numbers.Sets.{has-append}
use Rattle.step_rules.specs.Bags.{IsWithout, times}
use Rattle.step_rules.specs.World.{Once, has}

-- 1 where they are one number
abbrev pub one : ℕ → ℕ → ℕ
one n x = cond (eqb x n) 1 0

pub times-append : (n : ℕ) (xs ys : List ℕ) → times n (xs ++ ys) ≡ times n xs + times n ys
times-append n [] ys = omega arith
times-append n (x ∷ xs) ys = omega (arith, times-append n xs ys)

pub one_same : (n x : ℕ) → eqb x n ≡ true → one n x ≡ 1
one_same n x e = ap (λ b. cond b 1 0) e

pub one_else : (n x : ℕ) → eqb x n ≡ false → one n x ≡ 0
one_else n x e = ap (λ b. cond b 1 0) e

pub times_has : (n : ℕ) (xs : List ℕ) → has xs n ≡ true → 0 < times n xs
times_has n [] h = absurd (false≢true h)
times_has n (x ∷ xs) h = ⊎_elim (λ e. omega (arith, one_same n x e)) (λ e. omega (arith, times_has n xs e)) (or_cases (eqb x n) (has xs n) h)

pub times_none : (n : ℕ) (xs : List ℕ) → has xs n ≡ false → times n xs ≡ 0
times_none n [] h = refl
times_none n (x ∷ xs) h = let q = or_parts (eqb x n) (has xs n) h in omega (arith, one_else n x q.0, times_none n xs q.1)

pub has_times : (n : ℕ) (xs : List ℕ) → 0 < times n xs → has xs n ≡ true
has_times n xs h = ⊎_elim (λ e. e) (λ e. absurd (omega (arith, times_none n xs e))) (cases_Bool (has xs n))

pub times_once : (n : ℕ) (xs : List ℕ) → Once xs → times n xs ≤ 1
times_once n [] once = omega arith
times_once n (x ∷ xs) once = ⊎_elim
    (λ e. omega (arith, one_same n x (eq-eqb x n e), times_none n xs (ap (has xs) (sym e) ∙ once.0)))
    (λ e. omega (arith, one_else n x (ne_eqb x n e), times_once n xs once.1))
    (cases_eq x n)

-- numbers that stand at most once in a list
pub once_from_times : (xs : List ℕ) → ((n : ℕ) → times n xs ≤ 1) → Once xs
once_from_times [] few = tt
once_from_times (x ∷ xs) few = (
  false_from_ne_true (has xs x) (λ h. absurd (omega (arith, few x, one_same x x (eq-eqb x x refl), times_has x xs h))),
  once_from_times xs (λ n. omega (arith, few n)),
)

-- a node that is listed once is not both free and held
pub one_list : (n : ℕ) (own free holding : List ℕ) → times n free + times n holding ≡ times n own → Once own → has free n ≡ true → has holding n ≡ true → ⊥
one_list n own free holding all once h g = absurd (omega (arith, times_has n free h, times_has n holding g, times_once n own once))

-- what is left was there before
pub was_there : (n m : ℕ) (xs ys : List ℕ) → IsWithout n xs ys → has ys m ≡ true → has xs m ≡ true
was_there n m xs ys w h = let t = w.times m in has_times m xs (omega (arith, times_has m ys h))

times_sum : (n : ℕ) (xs : List ℕ) → times n xs ≡ sum_by (one n) xs
times_sum n [] = refl
times_sum n (x ∷ xs) = omega (arith, sum_by-cons (one n) x xs, times_sum n xs)

-- a node taken out of its place, which the last one takes
pub without_swapped : (n : ℕ) (xs : List ℕ) (i d : ℕ) → i < length xs → get_or xs i d ≡ n → IsWithout n xs (swap_remove xs i d)
without_swapped n xs i d inside is = record {
  times = λ m. let s = sum_by-swap_remove (one m) xs i d inside in let q : one m (get_or xs i d) ≡ one m n = ap (one m) is in
      omega (arith, times_sum m xs, times_sum m (swap_remove xs i d));
  length = omega (arith, length-take (length xs - 1) (set xs i (get_or xs (length xs - 1) d)), length-set xs i (get_or xs (length xs - 1) d));
}

pub one_there : (x n : ℕ) → has (x ∷ []) n ≡ true → x ≡ n
one_there x n h = ⊎_elim (λ e. eqb-true x n e) (λ e. absurd (false≢true e)) (or_cases (eqb x n) false h)

pub has_any : (xs : List ℕ) (n : ℕ) → has xs n ≡ list_any (λ x. eqb x n) xs
has_any [] n = refl
has_any (x ∷ xs) n = ap (λ b. eqb x n || b) (has_any xs n)

-- a number that stands in the first i of a list stands at the last of those places or before it
pub has_shorter : (n : ℕ) (xs : List ℕ) (i d : ℕ) → has (take (i + 1) xs) n ≡ true → get_or xs i d ≢ n → i < length xs → has (take i xs) n ≡ true
has_shorter n xs i d h ne inside = ⊎_elim (λ e. e) (λ e. absurd (ne (one_there (get_or xs i d) n e)))
    (has-append (take i xs) (get_or xs i d ∷ []) n (subst (λ (l : List ℕ). has l n ≡ true) (take_more xs i d inside) h))

-- where something stands, there is a place
pub has_some : (n : ℕ) (xs : List ℕ) (i : ℕ) → has (take i xs) n ≡ true → 0 < i
has_some n xs zero h = absurd (false≢true h)
has_some n xs (suc i) h = omega arith
