-- Chains: how they come apart, and that each node stands once in its chain.
use Rattle.std.proofs.Common.{◌≡◌, ℕ, ◌+◌, ◌/◌, ◌<◌, ◌≤◌, suc, zero, true, List, [], ◌∷◌, ◌++◌, length, eqb, eq-eqb, refl, sym, ap, ◌∙◌, subst, arith}
use Rattle.std.proofs.Common.{⊎_elim, length-append}
use Rattle.std.proofs.lemmas.Bool.{eqb-true, or_cases, or_right, or_left, false≢true}
use mathlib.Core.Option.{some, some-injective, some-ne-none}
use lib.ListN.{get_elem?}
use Rattle.step_rules.specs.Cells.{IsCell}
use Rattle.step_rules.specs.Records.{IsCounted, records_at, records_of}
use Rattle.step_rules.specs.World.{Chained, Class, Linked, Live, World, has, link, next_of, nodes_of}
use Rattle.step_rules.specs.declared.plan.Plan.{Plan}
use Rattle.step_rules.specs.declared.view.Held.{Held}

-- a chain's nodes are linked
pub chained_linked : (W : World) (c : Class) (xs : List Held) (e : ℕ) → Chained W c xs e → Linked xs e
chained_linked W c [] e p = tt
chained_linked W c (x ∷ xs) e p = (p.2, chained_linked W c xs e p.3)

-- linked nodes of one class that have their words
pub linked_chained : (W : World) (c : Class) (xs : List Held) (e : ℕ) → ((m : ℕ) → has (nodes_of xs) m ≡ true → W.class m ≡ c)
    → ((i : ℕ) (h : Held) → get_elem? xs i ≡ some h → W.node h.node ≡ h.words) → Linked xs e → Chained W c xs e
linked_chained W c [] e f g p = tt
linked_chained W c (x ∷ xs) e f g p = (
  f x.node (or_left (eqb x.node x.node) (has (nodes_of xs) x.node) (eq-eqb x.node x.node refl)),
  g 0 x refl,
  p.0,
  linked_chained W c xs e (λ m q. f m (or_right (eqb x.node m) (has (nodes_of xs) m) q)) (λ i h at. g (suc i) h at) p.1,
)

pub link-append : (xs ys : List Held) (e : ℕ) → link xs (link ys e) ≡ link (xs ++ ys) e
link-append [] ys e = refl
link-append (x ∷ xs) ys e = refl

pub head_link : (xs : List Held) (e f : ℕ) → 0 < length xs → link xs e ≡ link xs f
head_link [] e f h = absurd (omega arith)
head_link (x ∷ xs) e f h = refl

pub head_has : (xs : List Held) (n : ℕ) → 0 < length xs → link xs 0 ≡ suc n → has (nodes_of xs) n ≡ true
head_has [] n h e = absurd (omega arith)
head_has (x ∷ xs) n h e = or_left (eqb x.node n) (has (nodes_of xs) n) (eq-eqb x.node n (omega arith))

-- one first node, one length
same_length : (W : World) (c d : Class) (xs ys : List Held) → Chained W c xs 0 → Chained W d ys 0 → link xs 0 ≡ link ys 0 → length xs ≡ length ys
same_length W c d [] [] p q e = refl
same_length W c d [] (y ∷ ys) p q e = absurd (omega arith)
same_length W c d (x ∷ xs) [] p q e = absurd (omega arith)
same_length W c d (x ∷ xs) (y ∷ ys) p q e =
    let n : x.node ≡ y.node = omega arith in
    let w : x.words ≡ y.words = sym p.1 ∙ (ap W.node n ∙ q.1) in
    ap suc (same_length W c d xs ys p.3 q.3 (sym p.2 ∙ (ap next_of w ∙ q.2)))

-- the part of a chain from one of its nodes on
locate : (W : World) (c : Class) (xs : List Held) (e m : ℕ) → Chained W c xs e → has (nodes_of xs) m ≡ true
    → (ys : List Held) × Chained W c ys e × (link ys e ≡ suc m) × (0 < length ys) × (length ys ≤ length xs)
locate W c [] e m p h = absurd (false≢true h)
locate W c (x ∷ xs) e m p h = ⊎_elim
    (λ q. (x ∷ xs, p, ap suc (eqb-true x.node m q), omega arith, omega arith))
    (λ q. let r = locate W c xs e m p.3 q in (r.0, r.1, r.2, r.3, omega arith))
    (or_cases (eqb x.node m) (has (nodes_of xs) m) h)

pub chained-append : (W : World) (c : Class) (xs ys : List Held) (e : ℕ) → Chained W c xs (link ys e) → Chained W c ys e → Chained W c (xs ++ ys) e
chained-append W c [] ys e p q = q
chained-append W c (x ∷ xs) ys e p q = (p.0, p.1, p.2 ∙ link-append xs ys e, chained-append W c xs ys e p.3 q)

pub chained_parts : (W : World) (c : Class) (xs ys : List Held) (e : ℕ) → Chained W c (xs ++ ys) e → Chained W c xs (link ys e) × Chained W c ys e
chained_parts W c [] ys e p = (tt, p)
chained_parts W c (x ∷ xs) ys e p = let r = chained_parts W c xs ys e p.3 in ((p.0, p.1, p.2 ∙ sym (link-append xs ys e), r.0), r.1)

pub chained_class : (W : World) (c : Class) (xs : List Held) (e m : ℕ) → Chained W c xs e → has (nodes_of xs) m ≡ true → W.class m ≡ c
chained_class W c [] e m p h = absurd (false≢true h)
chained_class W c (x ∷ xs) e m p h = ⊎_elim
    (λ q. ap W.class (sym (eqb-true x.node m q)) ∙ p.0)
    (λ q. chained_class W c xs e m p.3 q)
    (or_cases (eqb x.node m) (has (nodes_of xs) m) h)

-- a chain whose nodes keep their words and are all of the class d afterwards
pub chained_move : (W W' : World) (c d : Class) (xs : List Held) (e : ℕ) → ((m : ℕ) → has (nodes_of xs) m ≡ true → (W'.class m ≡ d) × (W'.node m ≡ W.node m))
    → Chained W c xs e → Chained W' d xs e
chained_move W W' c d [] e f p = tt
chained_move W W' c d (x ∷ xs) e f p =
    let h = f x.node (or_left (eqb x.node x.node) (has (nodes_of xs) x.node) (eq-eqb x.node x.node refl)) in
    (h.0, h.1 ∙ p.1, p.2, chained_move W W' c d xs e (λ m q. f m (or_right (eqb x.node m) (has (nodes_of xs) m) q)) p.3)

-- no node stands in both parts of a chain: what follows it would be of two lengths
pub chained_apart : (W : World) (c : Class) (xs ys : List Held) (m : ℕ) → Chained W c (xs ++ ys) 0 → has (nodes_of xs) m ≡ true → has (nodes_of ys) m ≡ true → ⊥
chained_apart W c xs ys m p h g =
    let q = chained_parts W c xs ys 0 p in
    let a = locate W c xs (link ys 0) m q.0 h in
    let b = locate W c ys 0 m q.1 g in
    let l = chained-append W c a.0 ys 0 a.1 q.1 in
    let s = same_length W c c (a.0 ++ ys) b.0 l b.1 (sym (link-append a.0 ys 0) ∙ (a.2 ∙ sym b.2)) in
    omega (arith, length-append a.0 ys)

-- a cell whose chain, backup and records stay, and whose nodes keep their class and their words
pub cell_stays : {p : Plan} (W W' : World) {k : ℕ} → W'.chain k ≡ W.chain k → W'.backup k / 2 ≡ W.backup k / 2 → records_at p W'.log k ≡ records_at p W.log k
    → ((m : ℕ) → W.class m ≡ Live k → (W'.class m ≡ Live k) × (W'.node m ≡ W.node m)) → IsCell p W k → IsCell p W' k
cell_stays {p = p} W W' {k = k} chain backup records nodes c = record {
  head = ap (λ l. link l 0) chain ∙ (c.head ∙ ap (λ n. n + 1) (sym backup));
  chained = subst (λ l. Chained W' (Live k) l 0) (sym chain)
      (chained_move W W' (Live k) (Live k) (W.chain k) 0 (λ m h. nodes m (chained_class W (Live k) (W.chain k) 0 m c.chained h)) c.chained);
  node = λ i h at. c.node i h (ap (λ l. get_elem? l i) (sym chain) ∙ at);
  records = ap records_of chain ∙ (c.records ∙ sym records);
  counted = subst IsCounted (sym chain) c.counted;
}

-- a node of a chain
pub chained_at : (W : World) (c : Class) (xs : List Held) (e i : ℕ) (h : Held) → Chained W c xs e → get_elem? xs i ≡ some h → (W.class h.node ≡ c) × (W.node h.node ≡ h.words)
chained_at W c [] e i h p at = absurd (some-ne-none h (sym at))
chained_at W c (x ∷ xs) e zero h p at = let s = some-injective x h at in subst (λ (g : Held). (W.class g.node ≡ c) × (W.node g.node ≡ g.words)) s (p.0, p.1)
chained_at W c (x ∷ xs) e (suc i) h p at = chained_at W c xs e i h p.3 at
