-- What each change makes of a chain, and how many nodes it takes.
use Rattle.std.proofs.Common.{◌≡◌, ◌∙◌, ℕ, ◌+◌, ◌-◌, ◌<◌, ◌≤◌, suc, zero, Bool, true, false, cond, eqb, ne_eqb, List, [], ◌∷◌, ◌++◌, length, take, drop}
use Rattle.std.proofs.Common.{get_or, refl, sym, ap, arith, inl}
use Rattle.std.proofs.Common.{inr, append_assoc, length-append}
use Rattle.std.specs.Prelude.{max}
use Rattle.std.proofs.lemmas.Bool.{cases_Bool, eqb-true}
use Rattle.std.proofs.lemmas.List.{take-append-drop, length-take, length-drop}
use Rattle.std.proofs.Math.Seq.{drop-append_seam}
use Rattle.seat_history.specs.declared.words.TheConstants.{WIDTH}
use Rattle.step_rules.specs.Cells.{register_chain}
use Rattle.step_rules.specs.Records.{Edit, IsCounted, Within, cost_of, dropped_count, edited, fresh_records, gain_of, need, out, put, record_in, records_of}
use Rattle.step_rules.specs.Records as r
use Rattle.step_rules.specs.World.{END, Linked, link, next_of}
use Rattle.step_rules.specs.declared.layout.TheConstants.{NODE_WIDTH}
use Rattle.step_rules.specs.declared.view.Held.{Held}
use mathlib.Core.Option.{some}
use lib.ListN.{get_elem?}

remove_records : (ps : List (List ℕ)) (i : ℕ) → i < length ps
    → cond (eqb i 0) (take 1 (drop 1 ps)) (take i ps) ++ drop (cond (eqb i 0) (cond (eqb (length ps) 1) 1 2) (suc i)) ps ≡ take i ps ++ drop (suc i) ps
remove_records [] i h = absurd (omega arith)
remove_records (x ∷ []) zero h = refl
remove_records (x ∷ y ∷ r) zero h = let two : eqb (suc (suc (length r))) 1 ≡ false = ne_eqb _ _ (λ q. absurd (omega arith)) in rw two refl
remove_records (x ∷ r) (suc i) h = let more : eqb (suc i) 0 ≡ false = ne_eqb _ _ (λ q. absurd (omega arith)) in simp more refl

-- the records of the fresh nodes and of those that stay are those after the edit
pub edit_records : (ps : List (List ℕ)) (e : Edit) → Within (length ps) e → fresh_records ps e ++ drop (dropped_count (length ps) e) ps ≡ edited ps e
edit_records ps (put new) h = ap (λ x. new ∷ x) (take-append-drop 1 ps)
edit_records ps (r.set i new) h = append_assoc (take i ps) (new ∷ []) (drop (suc i) ps)
edit_records ps (out i) h = remove_records ps i h

pub edit_length : (ps : List (List ℕ)) (e : Edit) → Within (length ps) e → max 1 (length (edited ps e)) + dropped_count (length ps) e ≡ max 1 (length ps) + need (length ps) e
edit_length ps (put new) h = grind arith
edit_length ps (r.set i new) h = simp (length-append, length-take, length-drop) (grind arith)
edit_length ps (out i) h = simp (length-append, length-take, length-drop) (grind arith)

pub edit_stock : (n : ℕ) (e : Edit) → Within n e → dropped_count n e + cost_of n e ≡ need n e + gain_of n e
edit_stock n (put new) h = grind arith
edit_stock n (r.set i new) h = grind arith
edit_stock n (out i) h = grind (arith, eqb-true i 0, eqb-true n 1)

-- chains
pub records_of-append : (a b : List Held) → records_of (a ++ b) ≡ records_of a ++ records_of b
records_of-append [] b = refl
records_of-append (x ∷ a) b = grind (arith, records_of-append a b)

pub records_short : (a : List Held) → length (records_of a) ≤ length a
records_short [] = omega arith
records_short (x ∷ a) = grind (arith, records_short a)

pub records_of_full : (a b : List Held) → length (records_of (a ++ b)) ≡ length (a ++ b) → length (records_of a) ≡ length a
records_of_full a b h = omega (arith, records_short a, records_short b, ap (length {A = List ℕ}) (records_of-append a b), length-append {A = Held}, length-append {A = List ℕ})

no_records : (b : List Held) → length b ≡ 0 → records_of b ≡ []
no_records [] h = refl
no_records (x ∷ b) h = absurd (omega arith)

drop_nothing : (n : ℕ) → drop {A = List ℕ} n [] ≡ []
drop_nothing zero = refl
drop_nothing (suc n) = refl

none_dropped : (n : ℕ) (b ps : List (List ℕ)) → b ≡ [] → length ps ≡ 0 → b ≡ drop n ps
none_dropped n b [] e h = e ∙ sym (drop_nothing n)
none_dropped n b (x ∷ ps) e h = absurd (omega arith)

pub drops_some : (n : ℕ) (e : Edit) (m : ℕ) → m ≡ dropped_count n e → 0 < m
drops_some n (put new) m h = omega arith
drops_some n (r.set i new) m h = omega arith
drops_some n (out i) m h = grind arith

-- the records of what stays
pub records_kept : (a b : List Held) → IsCounted (a ++ b) → 0 < length a → records_of b ≡ drop (length a) (records_of (a ++ b))
records_kept a b c h = elim (cases_Bool (eqb (length (records_of (a ++ b))) 0)) [
  | inl p ↦
      let none : length (records_of (a ++ b)) ≡ 0 = eqb-true _ _ p in
      let short : length b ≡ 0 = omega (arith, length-append {A = Held}) in
      none_dropped (length a) (records_of b) (records_of (a ++ b)) (no_records b short) none
  | inr p ↦
      let full : length (records_of (a ++ b)) ≡ length (a ++ b) = grind (arith, c, p) in
      let front : length (records_of a) ≡ length a = records_of_full a b full in
      rw (records_of-append a b, ← front) (sym (drop-append_seam (records_of a) (records_of b)))
]

-- an edit of a chain
pub chain_edit : (dropped kept fresh : List Held) (e : Edit) → IsCounted (dropped ++ kept) → Within (length (records_of (dropped ++ kept))) e
    → length dropped ≡ dropped_count (length (records_of (dropped ++ kept))) e
    → length fresh ≡ need (length (records_of (dropped ++ kept))) e
    → records_of fresh ≡ fresh_records (records_of (dropped ++ kept)) e
    → (records_of (fresh ++ kept) ≡ edited (records_of (dropped ++ kept)) e) × IsCounted (fresh ++ kept)
chain_edit dropped kept fresh e c w d n f =
    let ps = records_of (dropped ++ kept) in
    let rest : records_of kept ≡ drop (dropped_count (length ps) e) ps = records_kept dropped kept c (drops_some (length ps) e (length dropped) d) ∙ ap (λ m. drop m ps) d in
    let all : records_of (fresh ++ kept) ≡ edited ps e = records_of-append fresh kept ∙ (ap (λ x. x ++ records_of kept) f ∙ (ap (λ x. fresh_records ps e ++ x) rest ∙ edit_records ps e w)) in
    let size = edit_length ps e w in
    (all, (let same : length (records_of (fresh ++ kept)) ≡ length (edited ps e) = ap (length {A = List ℕ}) all in omega (arith, length-append dropped kept, length-append fresh kept)))

-- a register's node
page_next : (ws : List ℕ) → next_of ws ≡ 0 → eqb (get_or ws (NODE_WIDTH - 1) 0) END ≡ false → get_or ws (NODE_WIDTH - 1) 0 ≡ 0
page_next ws e f = grind (arith, e, f)

pub page_words : (n : ℕ) (ws rec : List ℕ) → length ws ≡ suc n → take n ws ≡ rec → get_or ws n 0 ≡ 0 → ws ≡ rec ++ 0 ∷ []
page_words zero [] rec l t z = absurd (omega arith)
page_words zero (x ∷ []) rec l t z = grind (arith, l, t, z)
page_words zero (x ∷ y ∷ ws) rec l t z = absurd (omega arith)
page_words (suc n) [] rec l t z = absurd (omega arith)
page_words (suc n) (x ∷ ws) rec l t z = ap (λ y. x ∷ y) (page_words n ws (take n ws) (omega arith) refl z) ∙ ap (λ y. y ++ 0 ∷ []) t

-- a whole chain with one record is a register's
pub one_node : (hs : List Held) (n : ℕ) (rec : List ℕ) → link hs 0 ≡ n + 1 → Linked hs 0 → ((i : ℕ) (h : Held) → get_elem? hs i ≡ some h → length h.words ≡ NODE_WIDTH)
    → records_of hs ≡ rec ∷ [] → IsCounted hs → hs ≡ register_chain n rec
one_node [] n rec head linked wide is counted = absurd (omega arith)
one_node (h ∷ g ∷ hs) n rec head linked wide is counted = let l = ap (length {A = List ℕ}) is in absurd (omega (arith, counted))
one_node (h ∷ []) n rec head linked wide is counted =
    let full : eqb (get_or h.words (NODE_WIDTH - 1) 0) END ≡ false = not_end (eqb (get_or h.words (NODE_WIDTH - 1) 0) END) is in
    let record_is : record_in h.words ≡ rec = first_is (record_in h.words) rec (cond (eqb (get_or h.words (NODE_WIDTH - 1) 0) END) [] (record_in h.words ∷ [])) (rw full refl) is in
    let words : h.words ≡ rec ++ 0 ∷ [] = page_words WIDTH h.words rec (wide 0 h refl) record_is (page_next h.words linked.0 full) in
    let node : h.node ≡ n = omega arith in
    λ i. record { node = node i; words = words i } ∷ []
  where
    not_end : (b : Bool) → cond b [] (record_in h.words ∷ []) ≡ rec ∷ [] → b ≡ false
    not_end true e = let l = ap (length {A = List ℕ}) e in absurd (omega arith)
    not_end false e = refl

    first_is : (x y : List ℕ) (xs : List (List ℕ)) → xs ≡ x ∷ [] → xs ≡ y ∷ [] → x ≡ y
    first_is x y xs a b = ap (λ l. get_or l 0 []) (sym a ∙ b)
