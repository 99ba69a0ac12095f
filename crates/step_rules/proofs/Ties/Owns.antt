-- A seat's own nodes, with one of them gone, and the words of one of them.
use Rattle.std.proofs.Common.{◌≡◌, ◌≢◌, ℕ, ◌+◌, suc, zero, true, false, not, List, [], ◌∷◌, length, eqb, eq-eqb, ne_eqb, refl, sym, ap, ◌∙◌, subst, arith, ⊎_elim}
use Rattle.std.proofs.lemmas.Bool.{cases_eq, or_cases, or_from, or_parts, false≢true, eqb-true, cond-true, cond-false}
use mathlib.Core.Option.{some, some-injective, some-ne-none}
use lib.ListN.{get_elem?}
use Rattle.step_rules.specs.Views.{without, words_in}
use Rattle.step_rules.specs.World.{Once, has, nodes_of}
use Rattle.step_rules.specs.declared.view.Held.{Held}
use Rattle.step_rules.proofs.Numbers.Sets.{has_at}

-- one step of `without`
pub without_here : (n : ℕ) (x : Held) (xs : List Held) → x.node ≡ n → without n (x ∷ xs) ≡ without n xs
without_here n x xs e = cond-false (not (eqb x.node n)) (x ∷ without n xs) (without n xs) (ap not (eq-eqb x.node n e))

pub without_else : (n : ℕ) (x : Held) (xs : List Held) → x.node ≢ n → without n (x ∷ xs) ≡ x ∷ without n xs
without_else n x xs e = cond-true (not (eqb x.node n)) (x ∷ without n xs) (without n xs) (ap not (ne_eqb x.node n e))

-- what is left stood in the list, and isn't n
abbrev StoodIn : ℕ → List Held → Held → Type 0
StoodIn n xs h = (j : ℕ) × (get_elem? xs j ≡ some h) × (h.node ≢ n)

first_at : (n : ℕ) (x : Held) (xs : List Held) (i : ℕ) (h : Held) → ((i : ℕ) → get_elem? (without n xs) i ≡ some h → StoodIn n xs h) → x.node ≢ n
    → get_elem? (x ∷ without n xs) i ≡ some h
    → StoodIn n (x ∷ xs) h
first_at n x xs zero h rest apart at = let s : x ≡ h = some-injective x h at in (0, at, subst (λ (y : Held). y.node ≢ n) s apart)
first_at n x xs (suc i) h rest apart at = let r = rest i at in (suc r.0, r.1, r.2)

pub without_at : (n : ℕ) (xs : List Held) (i : ℕ) (h : Held) → get_elem? (without n xs) i ≡ some h → (j : ℕ) × (get_elem? xs j ≡ some h) × (h.node ≢ n)
without_at n [] i h at = absurd (some-ne-none h (sym at))
without_at n (x ∷ xs) i h at = ⊎_elim
    (λ e. let r = without_at n xs i h (ap (λ l. get_elem? l i) (sym (without_here n x xs e)) ∙ at) in (suc r.0, r.1, r.2))
    (λ e. first_at n x xs i h (λ j q. without_at n xs j h q) e (ap (λ l. get_elem? l i) (sym (without_else n x xs e)) ∙ at))
    (cases_eq x.node n)

without_none : (n : ℕ) (xs : List Held) → has (nodes_of xs) n ≡ false → length (without n xs) ≡ length xs
without_none n [] none = refl
without_none n (x ∷ xs) none = let p = or_parts (eqb x.node n) (has (nodes_of xs) n) none in
    ap length (without_else n x xs (λ e. false≢true (sym p.0 ∙ eq-eqb x.node n e))) ∙ ap suc (without_none n xs p.1)

-- one less
pub length-without : (n : ℕ) (xs : List Held) → Once (nodes_of xs) → has (nodes_of xs) n ≡ true → length (without n xs) + 1 ≡ length xs
length-without n [] once there = absurd (false≢true there)
length-without n (x ∷ xs) once there = ⊎_elim
    (λ e. let l = without_none n xs (ap (has (nodes_of xs)) (sym e) ∙ once.0) in let q = ap length (without_here n x xs e) in omega arith)
    (λ e. let l = length-without n xs once.1 (⊎_elim (λ t. absurd (e (eqb-true x.node n t))) (λ t. t) (or_cases (eqb x.node n) (has (nodes_of xs) n) there)) in
    let q = ap length (without_else n x xs e) in omega arith)
    (cases_eq x.node n)

without_has : (n m : ℕ) (xs : List Held) → has (nodes_of xs) m ≡ false → has (nodes_of (without n xs)) m ≡ false
without_has n m [] none = refl
without_has n m (x ∷ xs) none = let p = or_parts (eqb x.node m) (has (nodes_of xs) m) none in ⊎_elim
    (λ e. ap (λ l. has (nodes_of l) m) (without_here n x xs e) ∙ without_has n m xs p.1)
    (λ e. ap (λ l. has (nodes_of l) m) (without_else n x xs e) ∙ or_from (eqb x.node m) (has (nodes_of (without n xs)) m) p.0 (without_has n m xs p.1))
    (cases_eq x.node n)

pub once-without : (n : ℕ) (xs : List Held) → Once (nodes_of xs) → Once (nodes_of (without n xs))
once-without n [] once = tt
once-without n (x ∷ xs) once = ⊎_elim
    (λ e. subst (λ l. Once (nodes_of l)) (sym (without_here n x xs e)) (once-without n xs once.1))
    (λ e. subst (λ l. Once (nodes_of l)) (sym (without_else n x xs e)) (without_has n x.node xs once.0, once-without n xs once.1))
    (cases_eq x.node n)

-- the node that stands at a place is the only one with its number
pub words_at : (n : ℕ) (xs : List Held) (i : ℕ) (h : Held) → Once (nodes_of xs) → get_elem? xs i ≡ some h → h.node ≡ n → words_in xs n ≡ h.words
words_at n [] i h once at is = absurd (some-ne-none h (sym at))
words_at n (x ∷ xs) zero h once at is = let s : x ≡ h = some-injective x h at in
    cond-true (eqb x.node n) x.words (words_in xs n) (eq-eqb x.node n (ap (λ (y : Held). y.node) s ∙ is)) ∙ ap (λ (y : Held). y.words) s
words_at n (x ∷ xs) (suc i) h once at is =
    cond-false (eqb x.node n) x.words (words_in xs n) (ne_eqb x.node n (λ e. false≢true (sym once.0 ∙ (ap (has (nodes_of xs)) (e ∙ sym is) ∙ has_at xs i h at))))
    ∙ words_at n xs i h once.1 at is
