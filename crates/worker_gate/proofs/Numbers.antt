-- How often a number stands in a list, and below a bound.
use Rattle.std.proofs.Common.{◌≡◌, ℕ, ◌+◌, ◌-◌, ◌≤◌, ◌<◌, ◌==◌, List, [], ◌∷◌, ◌++◌, length, take, drop, zero, suc, sym, refl, ap, ◌∙◌, arith, Bool, true, false, if◌then◌else◌, ⊎_elim}
use Rattle.std.proofs.lemmas.Bool.{cases_eq, cases_lt, cases_order, eq-eqb, le-ltb, lt-ltb, ne_eqb}
use Rattle.worker_gate.specs.Numbers.{AtMostOnce, all_below, once_below, times}
use Rattle.worker_gate.specs.Rule.{one_if}

pub below_one : (b n : ℕ) → n < b → once_below b n ≡ 1
below_one b n h = ap one_if (lt-ltb n b h)

pub below_none : (b n : ℕ) → b ≤ n → once_below b n ≡ 0
below_none b n h = ap one_if (le-ltb n b h)

is_one : (b n : ℕ) → b ≡ n → one_if (b == n) ≡ 1
is_one b n h = ap one_if (eq-eqb b n h)

is_none : (b n : ℕ) → (b ≡ n → ⊥) → one_if (b == n) ≡ 0
is_none b n h = ap one_if (ne_eqb b n h)

pub below_more : (b n : ℕ) → once_below (suc b) n ≡ once_below b n + one_if (b == n)
below_more b n = ⊎_elim (λ e. omega (arith, below_one (suc b) n (omega arith), below_none b n (omega arith), is_one b n e))
    (λ t. ⊎_elim (λ l. omega (arith, below_none (suc b) n (omega arith), below_none b n (omega arith), is_none b n (λ e. omega arith)))
    (λ g. omega (arith, below_one (suc b) n (omega arith), below_one b n g, is_none b n (λ e. omega arith))) t) (cases_order b n)

pub below_mono : (a b n : ℕ) → a ≤ b → once_below a n ≤ once_below b n
below_mono a b n h = ⊎_elim (λ l. omega (arith, below_one a n l, below_one b n (omega arith))) (λ g. omega (arith, below_none a n g)) (cases_lt n a)

pub times_append : (n : ℕ) (xs ys : List ℕ) → times n (xs ++ ys) ≡ times n xs + times n ys
times_append n [] ys = omega arith
times_append n (x ∷ xs) ys = omega (arith, times_append n xs ys)

pub times_all_below : (n b : ℕ) → times n (all_below b) ≡ once_below b n
times_all_below n zero = sym (below_none 0 n (omega arith))
times_all_below n (suc b) = omega (arith, times_append n (all_below b) (b ∷ []), times_all_below n b, below_more b n)

pub length_all_below : (b : ℕ) → length (all_below b) ≡ b
length_all_below zero = refl
length_all_below (suc b) = omega (arith, Rattle.std.proofs.Common.length-append (all_below b) (b ∷ []), length_all_below b)

pub times_parts : (n k : ℕ) (xs : List ℕ) → times n (take k xs) + times n (drop k xs) ≡ times n xs
times_parts n zero xs = omega arith
times_parts n (suc k) [] = omega arith
times_parts n (suc k) (x ∷ xs) = omega (arith, times_parts n k xs)

-- how many numbers of the list are below the bound
abbrev how_many : ℕ → List ℕ → ℕ
how_many b [] = 0
how_many b (x ∷ xs) = once_below b x + how_many b xs

turned : (b x : ℕ) → one_if (b == x) ≡ one_if (x == b)
turned b x = ⊎_elim (λ e. is_one b x e ∙ sym (is_one x b (sym e))) (λ n. is_none b x n ∙ sym (is_none x b (λ e. n (sym e)))) (cases_eq b x)

how_many_more : (b : ℕ) (xs : List ℕ) → how_many (suc b) xs ≡ how_many b xs + times b xs
how_many_more b [] = omega arith
how_many_more b (x ∷ xs) = omega (arith, below_more b x, turned b x, how_many_more b xs)

none_below : (xs : List ℕ) → how_many 0 xs ≡ 0
none_below [] = refl
none_below (x ∷ xs) = omega (arith, below_none 0 x (omega arith), none_below xs)

how_many_few : (b : ℕ) (xs : List ℕ) → ((n : ℕ) → times n xs ≤ 1) → how_many b xs ≤ b
how_many_few zero xs h = omega (arith, none_below xs)
how_many_few (suc b) xs h = omega (arith, how_many_more b xs, how_many_few b xs h, h b)

at_most_one : (b n : ℕ) → once_below b n ≤ 1
at_most_one b n = ⊎_elim (λ l. omega (arith, below_one b n l)) (λ g. omega (arith, below_none b n g)) (cases_lt n b)

how_many_all : (b : ℕ) (xs : List ℕ) → AtMostOnce b xs → how_many b xs ≡ length xs
how_many_all b [] h = refl
how_many_all b (x ∷ xs) h = omega (arith, h x, at_most_one b x, is_one x x refl, how_many_all b xs (λ n. omega (arith, h n)))

-- a list without repetition of numbers below the bound is no longer than it
pub few : (b : ℕ) (xs : List ℕ) → AtMostOnce b xs → length xs ≤ b
few b xs h = omega (arith, how_many_all b xs h, how_many_few b xs (λ n. omega (arith, h n, at_most_one b n)))
