-- Lists of numbers without repetition, what stands in them, and how long they are.
use Rattle.std.proofs.Common.{◌≡◌, ◌≢◌, ℕ, ◌+◌, ◌<◌, ◌≤◌, suc, zero, true, false, List, [], ◌∷◌, ◌++◌, length, get_or, eqb, cond, eq-eqb, refl, sym, ap}
use Rattle.std.proofs.Common.{◌∙◌, subst, arith, ◌⊎◌, inl, inr, ⊎_elim}
use Rattle.std.proofs.lemmas.Bool.{eqb-true, cases_eq, cases_Bool, or_cases, or_right, or_left, or_parts, false≢true, false_from_ne_true, or_from}
use mathlib.Core.Option.{some, some-injective, some-ne-none}
use lib.ListN.{get_elem?}
use Rattle.step_rules.specs.World.{has, nodes_of, Once}
use Rattle.step_rules.specs.Views.{count_up}
use Rattle.step_rules.specs.declared.view.Held.{Held}
use Rattle.step_rules.proofs.Numbers.Places.{at_there}

has-append_false : (xs ys : List ℕ) (n : ℕ) → has xs n ≡ false → has ys n ≡ false → has (xs ++ ys) n ≡ false
has-append_false [] ys n p q = q
has-append_false (x ∷ xs) ys n p q = let r = or_parts (eqb x n) (has xs n) p in or_from (eqb x n) (has (xs ++ ys) n) r.0 (has-append_false xs ys n r.1 q)

pub once-append : (xs ys : List ℕ) → Once xs → Once ys → ((n : ℕ) → has xs n ≡ true → has ys n ≡ true → ⊥) → Once (xs ++ ys)
once-append [] ys p q d = q
once-append (x ∷ xs) ys p q d = (
  has-append_false xs ys x p.0 (false_from_ne_true (has ys x) (λ h. d x (or_left (eqb x x) (has xs x) (eq-eqb x x refl)) h)),
  once-append xs ys p.1 q (λ n h g. d n (or_right (eqb x n) (has xs n) h) g),
)

-- the list without x
abbrev without : ℕ → List ℕ → List ℕ
without x [] = []
without x (y ∷ ys) = cond (eqb y x) ys (y ∷ without x ys)

without_length : (x : ℕ) (ys : List ℕ) → has ys x ≡ true → suc (length (without x ys)) ≡ length ys
without_length x [] h = absurd (false≢true h)
without_length x (y ∷ ys) h = ⊎_elim
    (λ e. subst (λ b. suc (length (cond b ys (y ∷ without x ys))) ≡ suc (length ys)) (sym e) refl)
    (λ e. subst (λ b. suc (length (cond b ys (y ∷ without x ys))) ≡ suc (length ys)) (sym e)
    (ap suc (without_length x ys (⊎_elim (λ t. absurd (false≢true (sym e ∙ t))) (λ t. t) (or_cases (eqb y x) (has ys x) h)))))
    (cases_Bool (eqb y x))

without_has : (x n : ℕ) (ys : List ℕ) → n ≢ x → has ys n ≡ true → has (without x ys) n ≡ true
without_has x n [] ne h = h
without_has x n (y ∷ ys) ne h = ⊎_elim
    (λ e. subst (λ b. has (cond b ys (y ∷ without x ys)) n ≡ true) (sym e)
    (⊎_elim (λ t. absurd (ne (sym (eqb-true y n t) ∙ eqb-true y x e))) (λ t. t) (or_cases (eqb y n) (has ys n) h)))
    (λ e. subst (λ b. has (cond b ys (y ∷ without x ys)) n ≡ true) (sym e)
    (⊎_elim (λ t. or_left (eqb y n) (has (without x ys) n) t) (λ t. or_right (eqb y n) (has (without x ys) n) (without_has x n ys ne t)) (or_cases (eqb y n) (has ys n) h)))
    (cases_Bool (eqb y x))

pub at_most : (xs ys : List ℕ) → Once xs → ((n : ℕ) → has xs n ≡ true → has ys n ≡ true) → length xs ≤ length ys
at_most [] ys o f = omega arith
at_most (x ∷ xs) ys o f =
    let l = without_length x ys (f x (or_left (eqb x x) (has xs x) (eq-eqb x x refl))) in
    let r = at_most xs (without x ys) o.1 (λ n h. without_has x n ys (λ e. false≢true (sym (subst (λ y. has xs y ≡ false) (sym e) o.0) ∙ h)) (f n (or_right (eqb x n) (has xs n) h))) in
    omega arith

pub has-append : (xs ys : List ℕ) (n : ℕ) → has (xs ++ ys) n ≡ true → (has xs n ≡ true) ⊎ (has ys n ≡ true)
has-append [] ys n h = inr h
has-append (x ∷ xs) ys n h = ⊎_elim (λ e. inl (or_left (eqb x n) (has xs n) e))
    (λ e. ⊎_elim (λ f. inl (or_right (eqb x n) (has xs n) f)) (λ f. inr f) (has-append xs ys n e))
    (or_cases (eqb x n) (has (xs ++ ys) n) h)

pub has_left : (xs ys : List ℕ) (n : ℕ) → has xs n ≡ true → has (xs ++ ys) n ≡ true
has_left [] ys n h = absurd (false≢true h)
has_left (x ∷ xs) ys n h = ⊎_elim (λ e. or_left (eqb x n) (has (xs ++ ys) n) e) (λ e. or_right (eqb x n) (has (xs ++ ys) n) (has_left xs ys n e)) (or_cases (eqb x n) (has xs n) h)

pub has_right : (xs ys : List ℕ) (n : ℕ) → has ys n ≡ true → has (xs ++ ys) n ≡ true
has_right [] ys n h = h
has_right (x ∷ xs) ys n h = or_right (eqb x n) (has (xs ++ ys) n) (has_right xs ys n h)

has_longer : (xs ys : List ℕ) (n : ℕ) → has (xs ++ ys) n ≡ false → (has xs n ≡ false) × (has ys n ≡ false)
has_longer [] ys n h = (refl, h)
has_longer (x ∷ xs) ys n h = let p = or_parts (eqb x n) (has (xs ++ ys) n) h in let q = has_longer xs ys n p.1 in (or_from (eqb x n) (has xs n) p.0 q.0, q.1)

pub once_parts : (xs ys : List ℕ) → Once (xs ++ ys) → Once xs × Once ys
once_parts [] ys p = (tt, p)
once_parts (x ∷ xs) ys p = let q = once_parts xs ys p.1 in (((has_longer xs ys x p.0).0, q.0), q.1)

pub once_apart : (xs ys : List ℕ) (n : ℕ) → Once (xs ++ ys) → has xs n ≡ true → has ys n ≡ true → ⊥
once_apart [] ys n p h g = absurd (false≢true h)
once_apart (x ∷ xs) ys n p h g = ⊎_elim
    (λ e. let q : x ≡ n = eqb-true x n e in false≢true (sym (has_longer xs ys x p.0).1 ∙ (ap (has ys) q ∙ g)))
    (λ e. once_apart xs ys n p.1 e g)
    (or_cases (eqb x n) (has xs n) h)

pub nodes_of-append : (xs ys : List Held) → nodes_of (xs ++ ys) ≡ nodes_of xs ++ nodes_of ys
nodes_of-append [] ys = refl
nodes_of-append (x ∷ xs) ys = ap (λ l. x.node ∷ l) (nodes_of-append xs ys)

pub length-nodes_of : (xs : List Held) → length (nodes_of xs) ≡ length xs
length-nodes_of [] = refl
length-nodes_of (x ∷ xs) = ap suc (length-nodes_of xs)

-- what stands at a place stands in the list
pub has_at : (xs : List Held) (i : ℕ) (h : Held) → get_elem? xs i ≡ some h → has (nodes_of xs) h.node ≡ true
has_at [] i h e = absurd cc
has_at (x ∷ xs) zero h e = let q : x ≡ h = cc in or_left (eqb x.node h.node) (has (nodes_of xs) h.node) (eq-eqb x.node h.node (ap (λ (y : Held). y.node) q))
has_at (x ∷ xs) (suc i) h e = or_right (eqb x.node h.node) (has (nodes_of xs) h.node) (has_at xs i h e)

-- a node in the list stands at a place
pub at_has : (xs : List Held) (n : ℕ) → has (nodes_of xs) n ≡ true → (i : ℕ) × (h : Held) × (get_elem? xs i ≡ some h) × (h.node ≡ n)
at_has [] n e = absurd (false≢true e)
at_has (x ∷ xs) n e = ⊎_elim (λ q. (0, x, refl, eqb-true x.node n q)) (λ q. let r = at_has xs n q in (suc r.0, r.1, r.2, r.3)) (or_cases (eqb x.node n) (has (nodes_of xs) n) e)

pub has_first : (xs : List ℕ) → 0 < length xs → has xs (get_or xs 0 0) ≡ true
has_first [] h = absurd (omega arith)
has_first (x ∷ xs) h = or_left (eqb x x) (has xs x) (eq-eqb x x refl)

-- a number at a place stands in the list
pub has_place : (l : List ℕ) (i n : ℕ) → get_elem? l i ≡ some n → has l n ≡ true
has_place [] i n e = absurd (some-ne-none n (sym e))
has_place (x ∷ l) zero n e = or_left (eqb x n) (has l n) (eq-eqb x n (some-injective x n e))
has_place (x ∷ l) (suc i) n e = or_right (eqb x n) (has l n) (has_place l i n e)

pub has_from : (xs : List ℕ) (i d : ℕ) → i < length xs → has xs (get_or xs i d) ≡ true
has_from xs i d lt = has_place xs i (get_or xs i d) (at_there xs i d lt)

-- a list in which a number stands isn't empty
pub any_number : (xs : List ℕ) (x : ℕ) → has xs x ≡ true → 0 < length xs
any_number [] x h = absurd (false≢true h)
any_number (y ∷ xs) x h = omega arith

-- two lists in a row begin as the first
pub first_number : (xs ys : List ℕ) → 0 < length xs → get_or (xs ++ ys) 0 0 ≡ get_or xs 0 0
first_number [] ys lt = absurd (omega arith)
first_number (x ∷ xs) ys lt = refl

pub has_count : (m n x : ℕ) → m ≤ x → x < m + n → has (count_up m n) x ≡ true
has_count m zero x a b = absurd (omega arith)
has_count m (suc n) x a b = ⊎_elim (λ e. or_left (eqb m x) (has (count_up (suc m) n) x) (eq-eqb m x e))
    (λ e. or_right (eqb m x) (has (count_up (suc m) n) x) (has_count (suc m) n x (omega arith) (omega arith))) (cases_eq m x)

pub length-count_up : (m n : ℕ) → length (count_up m n) ≡ n
length-count_up m zero = refl
length-count_up m (suc n) = ap suc (length-count_up (suc m) n)

-- as many numbers below n as n, each once, are all of them
pub all_there : (xs : List ℕ) (n x : ℕ) → Once xs → ((y : ℕ) → has xs y ≡ true → y < n) → length xs ≡ n → x < n → has xs x ≡ true
all_there xs n x once below long lt = ⊎_elim (λ e. e)
    (λ e. let l = at_most (x ∷ xs) (count_up 0 n) (e, once)
    (λ y h. has_count 0 n y (omega arith) (⊎_elim (λ q. let r : x ≡ y = eqb-true x y q in omega arith) (λ q. let l = below y q in omega arith) (or_cases (eqb x y) (has xs y) h))) in
    absurd (omega (arith, length-count_up 0 n)))
    (cases_Bool (has xs x))

-- numbers below n, each once, are at most n
pub at_most_below : (xs : List ℕ) (n : ℕ) → Once xs → ((y : ℕ) → has xs y ≡ true → y < n) → length xs ≤ n
at_most_below xs n once below = omega (arith, at_most xs (count_up 0 n) once (λ y h. has_count 0 n y (omega arith) (let l = below y h in omega arith)), length-count_up 0 n)
