-- Own nodes that become the front of a chain.
use Rattle.std.proofs.Common.{◌≡◌, ◌≢◌, ◌∙◌, ℕ, ◌+◌, ◌-◌, ◌<◌, ◌≤◌, suc, zero, true, false, eqb, eq-eqb, ne_eqb, List, [], ◌∷◌, length, refl, sym, ap}
use Rattle.std.proofs.Common.{subst, arith, ⊎_elim}
use Rattle.std.specs.Prelude.{max}
use Rattle.std.proofs.lemmas.Bool.{eqb-true, cases_eq, or_cases, or_from, or_left, or_right, false≢true, false_from_ne_true}
use mathlib.Core.Option.{some, some-injective, some-ne-none}
use lib.ListN.{get_elem?}
use Rattle.step_rules.proofs.World.Chains.{chained_apart}
use Rattle.step_rules.proofs.Ties.Owns.{length-without, once-without, without_at, without_here, without_else}
use Rattle.step_rules.specs.Records.{Edit, Within, dropped_count, need, out, put}
use Rattle.step_rules.specs.Records as r
use Rattle.step_rules.specs.Views.{followed, without, without_all, words_in}
use Rattle.step_rules.specs.World.{Chained, Class, Once, World, has, link, next_of, nodes_of}
use Rattle.step_rules.specs.declared.view.Held.{Held}

pub length-followed : (own : List Held) (n count : ℕ) → length (followed own n count) ≡ count
length-followed own n zero = refl
length-followed own n (suc count) = ap suc (length-followed own (next_of (words_in own n) - 1) count)

pub followed_words : (own : List Held) (n count i : ℕ) (h : Held) → get_elem? (followed own n count) i ≡ some h → h.words ≡ words_in own h.node
followed_words own n zero i h at = absurd (some-ne-none h (sym at))
followed_words own n (suc count) zero h at = let s = some-injective (record { node = n; words = words_in own n }) h at in subst (λ (g : Held). g.words ≡ words_in own g.node) s refl
followed_words own n (suc count) (suc i) h at = followed_words own (next_of (words_in own n) - 1) count i h at

pub followed_link : (own : List Held) (n count : ℕ) → 0 < count → link (followed own n count) 0 ≡ suc n
followed_link own n zero lt = absurd (omega arith)
followed_link own n (suc count) lt = refl

pub need_some : (n : ℕ) (e : Edit) → 0 < need n e
need_some n (put new) = grind arith
need_some n (r.set i new) = omega arith
need_some n (out i) = grind (arith, eqb-true i 0)

pub dropped_within : (n : ℕ) (e : Edit) → Within n e → dropped_count n e ≤ max 1 n
dropped_within n (put new) h = grind arith
dropped_within n (r.set i new) h = grind arith
dropped_within n (out i) h = grind (arith, eqb-true i 0, eqb-true n 1)

pub dropped_some : (n : ℕ) (e : Edit) → 0 < dropped_count n e
dropped_some n (put new) = omega arith
dropped_some n (r.set i new) = omega arith
dropped_some n (out i) = grind (arith, eqb-true i 0, eqb-true n 1)

-- without one node, and then the others
pub without_one : (n : ℕ) (ns : List ℕ) (own : List Held) → without_all (n ∷ ns) own ≡ without_all ns (without n own)
without_one n ns [] = refl
without_one n ns (x ∷ own) = grind (arith, without_one n ns own, eqb-true x.node n, eqb-true n x.node)

pub without_none : (own : List Held) → without_all [] own ≡ own
without_none [] = refl
without_none (x ∷ own) = ap (λ l. x ∷ l) (without_none own)

pub without_all_at : (ns : List ℕ) (own : List Held) (i : ℕ) (h : Held) → get_elem? (without_all ns own) i ≡ some h → (j : ℕ) × (get_elem? own j ≡ some h) × (has ns h.node ≡ false)
without_all_at [] own i h at = (i, ap (λ l. get_elem? l i) (sym (without_none own)) ∙ at, refl)
without_all_at (n ∷ ns) own i h at =
    let q = without_all_at ns (without n own) i h (ap (λ l. get_elem? l i) (sym (without_one n ns own)) ∙ at) in
    let t = without_at n own q.0 h q.1 in
    (t.0, t.1, or_from (eqb n h.node) (has ns h.node) (ne_eqb n h.node (λ e. t.2 (sym e))) q.2)

pub once-without_all : (ns : List ℕ) (own : List Held) → Once (nodes_of own) → Once (nodes_of (without_all ns own))
once-without_all [] own once = subst (λ l. Once (nodes_of l)) (sym (without_none own)) once
once-without_all (n ∷ ns) own once = subst (λ l. Once (nodes_of l)) (sym (without_one n ns own)) (once-without_all ns (without n own) (once-without n own once))

-- another node stays
stays_in : (n m : ℕ) (own : List Held) → n ≢ m → has (nodes_of own) m ≡ true → has (nodes_of (without n own)) m ≡ true
stays_in n m [] ne h = h
stays_in n m (x ∷ own) ne h = ⊎_elim
    (λ e. ap (λ l. has (nodes_of l) m) (without_here n x own e)
    ∙ stays_in n m own ne (⊎_elim (λ t. absurd (ne (sym e ∙ eqb-true x.node m t))) (λ t. t) (or_cases (eqb x.node m) (has (nodes_of own) m) h)))
    (λ e. ap (λ l. has (nodes_of l) m) (without_else n x own e) ∙ ⊎_elim
    (λ t. or_left (eqb x.node m) (has (nodes_of (without n own)) m) t)
    (λ t. or_right (eqb x.node m) (has (nodes_of (without n own)) m) (stays_in n m own ne t))
    (or_cases (eqb x.node m) (has (nodes_of own) m) h))
    (cases_eq x.node n)

pub length-without_all : (ns : List ℕ) (own : List Held) → Once ns → Once (nodes_of own) → ((m : ℕ) → has ns m ≡ true → has (nodes_of own) m ≡ true)
    → length (without_all ns own) + length ns ≡ length own
length-without_all [] own once once_own each = omega (arith, ap (length {A = Held}) (without_none own))
length-without_all (n ∷ ns) own once once_own each =
    let l = length-without n own once_own (each n (or_left (eqb n n) (has ns n) (eq-eqb n n refl))) in
    let q = length-without_all ns (without n own) once.1 (once-without n own once_own)
    (λ m t. stays_in n m own (λ e. false≢true (sym once.0 ∙ (ap (has ns) e ∙ t))) (each m (or_right (eqb n m) (has ns m) t))) in
    omega (arith, ap (length {A = Held}) (without_one n ns own))

-- each node of a chain stands once in it
pub chained_once : (W : World) (c : Class) (xs : List Held) → Chained W c xs 0 → Once (nodes_of xs)
chained_once W c [] p = tt
chained_once W c (x ∷ xs) p = (
  false_from_ne_true (has (nodes_of xs) x.node) (λ h. chained_apart W c (x ∷ []) xs x.node p (or_left (eqb x.node x.node) false (eq-eqb x.node x.node refl)) h),
  chained_once W c xs p.3,
)
