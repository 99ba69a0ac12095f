-- The records of a claimed chain, page by page.
use Rattle.std.proofs.Common.{◌≡◌, ◌≢◌, ◌∙◌, ℕ, ◌+◌, ◌-◌, suc, eqb, eq-eqb, ne_eqb, List, [], ◌∷◌, ◌++◌, Some, None, length, drop, get_or, refl, sym, ap, subst, arith}
use Rattle.std.proofs.lemmas.Bool.{cond-false, cond-true}
use mathlib.Core.Option.{some}
use lib.ListN.{get_elem?}
use Rattle.step_rules.specs.Records.{IsCounted, key_in, place_in, record_in, records_of, value_in}
use Rattle.step_rules.specs.World.{Linked, link, next_of}
use Rattle.step_rules.specs.declared.layout.TheConstants.{END, NODE_WIDTH}
use Rattle.step_rules.specs.declared.view.Held.{Held}

abbrev pub next_word : List ℕ → ℕ
next_word ws = get_or ws (NODE_WIDTH - 1) 0

pub linked_from : (xs ys : List Held) → Linked (xs ++ ys) 0 → Linked ys 0
linked_from [] ys l = l
linked_from (x ∷ xs) ys l = linked_from xs ys l.1

pub at_front : (xs : List Held) (y : Held) (ys : List Held) → get_elem? (xs ++ y ∷ ys) (length xs) ≡ some y
at_front [] y ys = refl
at_front (x ∷ xs) y ys = at_front xs y ys

-- past `at` records of the chain's the key is looked for among those of its tail
pub record Seeks (n at : ℕ) (pages tail : List Held) : Type 0 where
  pub value : value_in (records_of pages) n ≡ value_in (records_of tail) n
  pub place : place_in (records_of pages) n ≡ at + place_in (records_of tail) n
  pub count : length (records_of pages) ≡ at + length (records_of tail)

pub seeks_all : (n : ℕ) (pages : List Held) → Seeks n 0 pages pages
seeks_all n pages = record { value = refl; place = omega arith; count = omega arith }

no_link : (rest : List Held) → link rest 0 ≡ 0 → rest ≡ []
no_link [] e = refl
no_link (h ∷ r) e = absurd (omega arith)

pub some_link : (rest : List Held) (n : ℕ) → link rest 0 ≡ suc n → (h : Held) × (r : List Held) × (rest ≡ h ∷ r) × (h.node ≡ n)
some_link [] n e = absurd (omega arith)
some_link (h ∷ r) n e = (h, r, refl, omega arith)

next_end : (ws : List ℕ) → next_word ws ≡ END → next_of ws ≡ 0
next_end ws e = cond-true (eqb (next_word ws) END) 0 (next_word ws) (eq-eqb (next_word ws) END e)

next_else : (ws : List ℕ) → next_word ws ≢ END → next_of ws ≡ next_word ws
next_else ws ne = cond-false (eqb (next_word ws) END) 0 (next_word ws) (ne_eqb (next_word ws) END ne)

records_end : (page : Held) (rest : List Held) → next_word page.words ≡ END → records_of (page ∷ rest) ≡ records_of rest
records_end page rest e = cond-true (eqb (next_word page.words) END) (records_of rest) (record_in page.words ∷ records_of rest) (eq-eqb (next_word page.words) END e)

records_else : (page : Held) (rest : List Held) → next_word page.words ≢ END → records_of (page ∷ rest) ≡ record_in page.words ∷ records_of rest
records_else page rest ne = cond-false (eqb (next_word page.words) END) (records_of rest) (record_in page.words ∷ records_of rest) (ne_eqb (next_word page.words) END ne)

length_front : (xs : List Held) (y : Held) → length (xs ++ y ∷ []) ≡ suc (length xs)
length_front [] y = refl
length_front (x ∷ xs) y = ap suc (length_front xs y)

module _ (n at : ℕ) (pages front rest : List Held) (page : Held) (parts : pages ≡ front ++ page ∷ rest) (long : length front ≡ at) (linked : Linked pages 0)
    (seeks : Seeks n at pages (page ∷ rest)) where
  next_is : next_of page.words ≡ link rest 0
  next_is = (linked_from front (page ∷ rest) (subst (λ l. Linked l 0) parts linked)).0

  -- a node without a record is the only one
  pub ends_empty : IsCounted pages → next_word page.words ≡ END → (at ≡ 0) × (length (records_of pages) ≡ 0) × (value_in (records_of pages) n ≡ None)
  ends_empty counted e =
      let last : rest ≡ [] = no_link rest (sym next_is ∙ next_end page.words e) in
      let none : records_of (page ∷ rest) ≡ [] = records_end page rest e ∙ ap records_of last in
      let count : length (records_of pages) ≡ at = seeks.count ∙ (ap (λ (l : List (List ℕ)). at + length l) none ∙ omega arith) in
      let whole : length pages ≡ suc at = ap (length {A = Held}) parts ∙ (ap (λ (l : List Held). length (front ++ page ∷ l)) last ∙ (length_front front page ∙ ap suc long)) in
      (omega (arith, counted), omega (arith, counted), seeks.value ∙ ap (λ (l : List (List ℕ)). value_in l n) none)

  pub finds : next_word page.words ≢ END → key_in (record_in page.words) ≡ n → (place_in (records_of pages) n ≡ at) × (value_in (records_of pages) n ≡ Some (drop 2 (record_in page.words)))
  finds ne is =
      let some_there = records_else page rest ne in
      let same = eq-eqb (key_in (record_in page.words)) n is in (
        seeks.place ∙ (ap (λ (l : List (List ℕ)). at + place_in l n) some_there
            ∙ (ap (λ m. at + m) (cond-true (eqb (key_in (record_in page.words)) n) 0 (suc (place_in (records_of rest) n)) same) ∙ omega arith)),
        seeks.value ∙ (ap (λ (l : List (List ℕ)). value_in l n) some_there
            ∙ cond-true (eqb (key_in (record_in page.words)) n) (Some (drop 2 (record_in page.words))) (value_in (records_of rest) n) same),
      )

  pub seeks_on : next_word page.words ≢ END → key_in (record_in page.words) ≢ n → Seeks n (suc at) pages rest
  seeks_on ne apart =
      let some_there = records_else page rest ne in
      let other = ne_eqb (key_in (record_in page.words)) n apart in record {
        value = seeks.value ∙ (ap (λ (l : List (List ℕ)). value_in l n) some_there
            ∙ cond-false (eqb (key_in (record_in page.words)) n) (Some (drop 2 (record_in page.words))) (value_in (records_of rest) n) other);
        place = seeks.place ∙ (ap (λ (l : List (List ℕ)). at + place_in l n) some_there
            ∙ (ap (λ m. at + m) (cond-false (eqb (key_in (record_in page.words)) n) 0 (suc (place_in (records_of rest) n)) other) ∙ omega arith));
        count = seeks.count ∙ (ap (λ (l : List (List ℕ)). at + length l) some_there ∙ omega arith);
      }

  -- the last node
  pub ends_last : next_word page.words ≢ END → key_in (record_in page.words) ≢ n → next_word page.words ≡ 0 → (length (records_of pages) ≡ at + 1) × (value_in (records_of pages) n ≡ None)
  ends_last ne apart zero_next =
      let last : rest ≡ [] = no_link rest (sym next_is ∙ (next_else page.words ne ∙ zero_next)) in
      let s = seeks_on ne apart in (
        s.count ∙ (ap (λ (l : List Held). suc at + length (records_of l)) last ∙ omega arith),
        s.value ∙ ap (λ (l : List Held). value_in (records_of l) n) last,
      )

  -- one more link
  pub link_on : next_word page.words ≢ END → next_word page.words ≢ 0 → (h : Held) × (r : List Held) × (rest ≡ h ∷ r) × (h.node ≡ next_word page.words - 1)
  link_on ne some_next = some_link rest (next_word page.words - 1) (sym next_is ∙ (next_else page.words ne ∙ omega arith))
