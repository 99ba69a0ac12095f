-- What the words of a claimed chain tell of the cell's records.
use Rattle.std.proofs.Common.{◌≡◌, ◌≢◌, ◌∙◌, ℕ, ◌-◌, ◌<◌, suc, zero, Bool, true, false, eqb, eq-eqb, ne_eqb, List, [], ◌∷◌, length, take, drop, get_or, refl, sym, ap, subst, arith, ⊎_elim}
use Rattle.std.proofs.lemmas.Bool.{cases_Bool, cond-true, cond-false, false≢true, or_from}
use mathlib.Core.Option.{some, some-injective, some-ne-none}
use lib.ListN.{get_elem?}
use Rattle.seat_history.specs.declared.entry.Entry.{Entry}
use Rattle.step_rules.proofs.Order.Edits.{records_short}
use Rattle.step_rules.proofs.Numbers.Sets.{has_at}
use Rattle.step_rules.specs.Claims.{IsClaim}
use Rattle.step_rules.specs.Readers.{IsFirst, next_word}
use Rattle.step_rules.specs.Records.{IsCounted, record_in, records_at, records_of}
use Rattle.step_rules.specs.World.{END, Linked, Once, has, link, next_of, nodes_of}
use Rattle.step_rules.specs.declared.layout.TheConstants.{NODE_WIDTH}
use Rattle.step_rules.specs.declared.plan.Plan.{Plan}
use Rattle.step_rules.specs.declared.view.Claim.{Claim}
use Rattle.step_rules.specs.declared.view.Held.{Held}

abbrev pub is_end : List ℕ → Bool
is_end ws = eqb (get_or ws (NODE_WIDTH - 1) 0) END

-- the first node of a whole chain: END exactly where there is no record, else its record is the first
end_none : (h : Held) (r : List Held) → IsCounted (h ∷ r) → Linked (h ∷ r) 0 → is_end h.words ≡ true → records_of (h ∷ r) ≡ []
end_none h [] counted linked e = cond-true (is_end h.words) [] (record_in h.words ∷ []) e
end_none h (g ∷ r) counted linked e = absurd (let z : 0 ≡ suc g.node = sym (cond-true (is_end h.words) 0 (get_or h.words (NODE_WIDTH - 1) 0) e) ∙ linked.0 in omega arith)

pub first_record : (h : Held) (r : List Held) → is_end h.words ≡ false → records_of (h ∷ r) ≡ record_in h.words ∷ records_of r
first_record h r e = cond-false (is_end h.words) (records_of r) (record_in h.words ∷ records_of r) e

-- what the words of a whole chain's first node tell of its records
pub first_of : (h : Held) (r : List Held) → IsCounted (h ∷ r) → Linked (h ∷ r) 0 → IsFirst (records_of (h ∷ r)) h.words
first_of h r counted linked = record {
  empty = λ e. end_none h r counted linked (eq-eqb (next_word h.words) END e);
  first = λ ne. (records_of r, first_record h r (ne_eqb (next_word h.words) END ne));
  one = λ e. alone r e counted linked;
  more = λ some_next ne. goes_on r some_next ne counted linked;
}
  where
    next_is : (ws : List ℕ) → next_word ws ≢ END → next_of ws ≡ next_word ws
    next_is ws ne = cond-false (is_end ws) 0 (next_word ws) (ne_eqb (next_word ws) END ne)

    alone : (l : List Held) → next_word h.words ≡ 0 → IsCounted (h ∷ l) → Linked (h ∷ l) 0 → length (records_of (h ∷ l)) ≡ 1
    alone [] e all chain = ap (length {A = List ℕ}) (first_record h [] (ne_eqb (next_word h.words) END (λ q. let z = sym e ∙ q in omega arith)))
    alone (g ∷ l) e all chain = absurd (let z = sym chain.0 ∙ (next_is h.words (λ q. let y = sym e ∙ q in omega arith) ∙ e) in omega arith)

    goes_on : (l : List Held) → next_word h.words ≢ 0 → next_word h.words ≢ END → IsCounted (h ∷ l) → Linked (h ∷ l) 0 → 1 < length (records_of (h ∷ l))
    goes_on [] some_next ne all chain = absurd (some_next (sym (next_is h.words ne) ∙ chain.0))
    goes_on (g ∷ l) some_next ne all chain = omega (arith, all)

pub record PageTells (p : Plan) (seen : List Entry) (x : Claim) : Type 0 where
  pub none : is_end x.image ≡ true → records_at p (take x.at seen) x.cell ≡ []
  pub some : is_end x.image ≡ false → (rest : List (List ℕ)) × (records_at p (take x.at seen) x.cell ≡ record_in x.image ∷ rest)

pub page_tells : (p : Plan) (seen : List Entry) (x : Claim) (n : ℕ) → IsClaim p seen x n → PageTells p seen x
page_tells p seen x n is =
    let h : Held = record { node = n; words = x.image } in record {
      none = λ e. sym is.records ∙ (ap records_of is.heads ∙ end_none h is.rest (subst IsCounted is.heads is.counted) (subst (λ l. Linked l 0) is.heads is.linked) e);
      some = λ e. (records_of is.rest, sym is.records ∙ (ap records_of is.heads ∙ first_record h is.rest e));
    }

-- where a chain has a record for each node, the node at a place has the record at that place, and its next word isn't END
pub full_chain : (hs : List Held) → IsCounted hs → 0 < length (records_of hs) → length (records_of hs) ≡ length hs
full_chain hs counted more = omega (arith, counted)

full_first : (x : Held) (xs : List Held) → length (records_of (x ∷ xs)) ≡ suc (length xs) → (is_end x.words ≡ false) × (length (records_of xs) ≡ length xs)
full_first x xs full = ⊎_elim
    (λ e. let none = ap (length {A = List ℕ}) (cond-true (is_end x.words) (records_of xs) (record_in x.words ∷ records_of xs) e) in absurd (omega (arith, records_short xs)))
    (λ e. (e, let some = ap (length {A = List ℕ}) (first_record x xs e) in omega arith))
    (cases_Bool (is_end x.words))

pub full_at : (hs : List Held) (i : ℕ) (h : Held) → length (records_of hs) ≡ length hs → get_elem? hs i ≡ some h
    → (is_end h.words ≡ false) × (get_elem? (records_of hs) i ≡ some (record_in h.words))
full_at [] i h full at = absurd (some-ne-none h (sym at))
full_at (x ∷ xs) zero h full at =
    let first = full_first x xs full in
    subst (λ (z : Held). (is_end z.words ≡ false) × (get_elem? (records_of (x ∷ xs)) 0 ≡ some (record_in z.words))) (some-injective x h at)
    (first.0, ap (λ (l : List (List ℕ)). get_elem? l 0) (first_record x xs first.0))
full_at (x ∷ xs) (suc i) h full at =
    let first = full_first x xs full in
    let later = full_at xs i h first.1 at in
    (later.0, ap (λ (l : List (List ℕ)). get_elem? l (suc i)) (first_record x xs first.0) ∙ later.1)

-- what a node of a whole chain goes on to
pub linked_at : (hs : List Held) (i : ℕ) (h : Held) → Linked hs 0 → get_elem? hs i ≡ some h → next_of h.words ≡ link (drop (suc i) hs) 0
linked_at [] i h linked at = absurd (some-ne-none h (sym at))
linked_at (x ∷ xs) zero h linked at = subst (λ (z : Held). next_of z.words ≡ link xs 0) (some-injective x h at) linked.0
linked_at (x ∷ xs) (suc i) h linked at = linked_at xs i h linked.1 at

pub next_at : (hs : List Held) (i : ℕ) (h : Held) → Linked hs 0 → get_elem? hs i ≡ some h → suc i < length hs
    → (g : Held) × (get_elem? hs (suc i) ≡ some g) × (next_of h.words ≡ suc g.node)
next_at [] i h linked at more = absurd (omega arith)
next_at (x ∷ []) i h linked at more = absurd (omega arith)
next_at (x ∷ y ∷ hs) zero h linked at more = (y, refl, subst (λ (z : Held). next_of z.words ≡ suc y.node) (some-injective x h at) linked.0)
next_at (x ∷ y ∷ hs) (suc i) h linked at more = let r = next_at (y ∷ hs) i h linked.1 at (omega arith) in (r.0, r.1, r.2)

-- a node that stands in a chain once doesn't stand before its place
pub not_before : (hs : List Held) (i : ℕ) (h : Held) → Once (nodes_of hs) → get_elem? hs i ≡ some h → has (nodes_of (take i hs)) h.node ≡ false
not_before [] i h once at = absurd (some-ne-none h (sym at))
not_before (x ∷ xs) zero h once at = refl
not_before (x ∷ xs) (suc i) h once at = or_from (eqb x.node h.node) (has (nodes_of (take i xs)) h.node)
    (ne_eqb x.node h.node (λ e. false≢true (sym once.0 ∙ (ap (has (nodes_of xs)) e ∙ has_at xs i h at))))
    (not_before xs i h once.1 at)

-- a word that goes on to a node is that node's link
pub link_word : (ws : List ℕ) (n : ℕ) → next_of ws ≡ suc n → get_or ws (NODE_WIDTH - 1) 0 ≡ suc n
link_word ws n next = ⊎_elim
    (λ e. absurd (let z : 0 ≡ suc n = sym (cond-true (is_end ws) 0 (get_or ws (NODE_WIDTH - 1) 0) e) ∙ next in omega arith))
    (λ e. sym (cond-false (is_end ws) 0 (get_or ws (NODE_WIDTH - 1) 0) e) ∙ next)
    (cases_Bool (is_end ws))

-- and where it isn't END, it is the link to what comes next
pub next_word_of : (ws : List ℕ) → is_end ws ≡ false → next_of ws ≡ get_or ws (NODE_WIDTH - 1) 0
next_word_of ws e = cond-false (is_end ws) 0 (get_or ws (NODE_WIDTH - 1) 0) e
