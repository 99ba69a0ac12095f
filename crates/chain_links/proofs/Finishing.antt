-- A copy along the claimed chain becomes the front of a change.
use Rattle.std.proofs.Common.{◌≡◌, ◌≢◌, ◌∙◌, ℕ, ◌+◌, ◌*◌, ◌-◌, ◌<◌, suc, zero, true, false, cond, eqb, eq-eqb, ne_eqb, List, [], ◌∷◌, ◌++◌, length, append-nil, length-append}
use Rattle.std.proofs.Common.{take, drop, get_or, refl, sym, ap, subst, arith}
use Rattle.std.specs.Prelude.{slice_index}
use Rattle.std.proofs.lemmas.Bool.{cond-false, cond-true}
use Rattle.std.proofs.lemmas.List.{length-drop, length-take, nil_from_length, take_all, take_more}
use mathlib.Core.Option.{some}
use lib.ListN.{get_elem?}
use Rattle.chain_links.proofs.Doing.{done_then, only_back, only_filled, only_none, only_noted, only_passed, only_then, read_then}
use Rattle.chain_links.proofs.Following.{PassedOn, at_later, last_apart, last_held, noted_all, noted_done, noted_place, noted_read, once_held, page_of, parts_noted, record_here}
use Rattle.chain_links.proofs.Following.{record_wide, stays}
use Rattle.chain_links.proofs.Passing.{back_claim}
use Rattle.chain_links.specs.Following.{HasFront, IsCopying}
use Rattle.chain_links.specs.Parts.{HasDone, OnlyCopied, Part, fills, pages_read}
use Rattle.chain_links.specs.Walking.{HasBack}
use Rattle.node_pool.specs.Pool.{IsFilled}
use Rattle.seat_history.specs.Contents.{zeros}
use Rattle.seat_history.specs.declared.words.TheConstants.{WIDTH}
use Rattle.step_rules.proofs.Order.Fronting.{front_with, next_word, nodes_with, record_more}
use Rattle.step_rules.proofs.Order.Pages.{full_at, full_chain, linked_at, next_word_of}
use Rattle.step_rules.proofs.Numbers.Places.{take_to}
use Rattle.step_rules.proofs.Ties.Pools.{held_own, own_wide}
use Rattle.step_rules.proofs.World.Sizes.{nodes_low}
use Rattle.step_rules.specs.Bags.{times}
use Rattle.step_rules.specs.Claims.{BACK, IsClaim, On}
use Rattle.step_rules.specs.Fronts.{with_words}
use Rattle.step_rules.specs.Records.{Edit, Within, dropped_count, fresh_records, need, out, record_in, records_of, set, with_value}
use Rattle.step_rules.specs.SeatData.{IsSeat, SeatData}
use Rattle.step_rules.specs.Views.{claim_of, claimed_pages, claimed_records, words_in}
use Rattle.step_rules.specs.World.{Linked, Once, has, link, nodes_of}
use Rattle.step_rules.specs.declared.layout.TheConstants.{END, NODE_WIDTH}
use Rattle.step_rules.specs.declared.view.Claim.{Claim}
use Rattle.step_rules.specs.declared.view.Held.{Held}

-- the links among the first places of a list
later_taken : (l : List Held) (n : ℕ) → drop 1 (take (suc n) l) ≡ take n (drop 1 l)
later_taken [] zero = refl
later_taken [] (suc n) = refl
later_taken (x ∷ l) n = refl

link_dropped : (hs : List Held) (k : ℕ) → ((i : ℕ) (h : Held) → get_elem? hs i ≡ some h → h.node + 1 < END) → link (drop k hs) 0 < END
link_dropped [] zero low = omega arith
link_dropped [] (suc k) low = omega arith
link_dropped (x ∷ hs) zero low = omega (arith, low 0 x refl)
link_dropped (x ∷ hs) (suc k) low = link_dropped hs k (λ i h at. low (suc i) h at)

-- what the copy made before it is filled: it went on from the copy by these parts, and left its own nodes as they are
pub record GoesTo (cell at head last first : ℕ) (parts : List Part) (now mid : SeatData) : Type 0 where
  pub done : HasDone cell (2 * first) parts now mid
  pub only : OnlyCopied now mid
  pub own : mid.view.own ≡ now.view.own
  pub holding : mid.holding ≡ now.holding

module _ {cell at head last : ℕ} {words : List ℕ} {before now : SeatData} (c : IsCopying cell at head last words before now) where
  abbrev chain : List Held
  chain = claimed_pages before.view

  abbrev records : List (List ℕ)
  records = claimed_records before.view

  claim : IsClaim before.view.plan before.view.seen (claim_of BACK before.view) c.from.back.node
  claim = back_claim cell before.view c.from.law.sound c.from.back

  -- a node of the chain goes on to what follows it
  goes_to : (i : ℕ) (h : Held) → 0 < length records → get_elem? chain i ≡ some h → slice_index h.words WIDTH ≡ link (drop (suc i) chain) 0
  goes_to i h more place = sym (next_word_of h.words (full_at chain i h (full_chain chain claim.counted more) place).0) ∙ linked_at chain i h claim.linked place

  goes_low : (k : ℕ) → link (drop k chain) 0 < END
  goes_low k = link_dropped chain k (λ i h place. omega (arith, (claim.node i h place).there, nodes_low before.view.plan c.from.law.sound.plan))

  module _ {mid new : SeatData} {b : List Part} {ws : List ℕ} (go : GoesTo cell at head last c.from.back.node b now mid) (g : IsFilled last ws mid new) (law : IsSeat new) where
    words_kept : (m : ℕ) → has c.filled m ≡ true → words_in new.view.own m ≡ words_in now.view.own m
    words_kept m h = g.others m (last_apart c m h) ∙ ap (λ (l : List Held). words_in l m) go.own

    only_new : OnlyCopied before new
    only_new = only_then c.only (only_then go.only (only_filled g))

    pages_new : claimed_pages new.view ≡ chain
    pages_new = ap (λ (x : Claim). x.pages) (only_back only_new)

    holding_new : new.holding ≡ head ∷ c.tail
    holding_new = ap (λ (z : SeatData). z.holding) g.same ∙ (go.holding ∙ (c.holding ∙ c.heads))

    back_new : HasBack cell new.view
    back_new = record {
      node = c.from.back.node;
      stands = subst (λ (x : Claim). On x c.from.back.node) (sym (only_back only_new)) c.from.back.stands;
      cell_is = ap (λ (x : Claim). x.cell) (only_back only_new) ∙ c.from.back.cell_is;
    }

    -- with the records of a change, linked to what it keeps
    ends : (change : Edit) (passed : ℕ) → pages_read (c.parts ++ (b ++ fills (page_of last ws) ∷ [])) ≡ take (suc passed) chain → Within (length records) change
        → suc at ≡ need (length records) change → nodes_of (drop 1 (take (dropped_count (length records) change) chain)) ≡ mid.noted
        → Linked (with_words new.view.own (c.filled ++ last ∷ [])) (link (drop (dropped_count (length records) change) chain) 0)
        → records_of (with_words new.view.own (c.filled ++ last ∷ [])) ≡ fresh_records records change → HasFront cell head change before new
    ends change passed read within count noted linked fresh =
        let long : length (head ∷ c.tail) ≡ suc at = ap (length {A = ℕ}) (sym c.heads) ∙ omega (arith, length-append c.filled (last ∷ []), c.long) in
        let own : (m : ℕ) → has (head ∷ c.tail) m ≡ true → has (nodes_of new.view.own) m ≡ true = λ m h. held_own new law m (ap (λ (l : List ℕ). has l m) holding_new ∙ h) in
        let front = front_with c.tail (back_claim cell new.view law.sound back_new)
        (subst (λ (l : List Held). Within (length (records_of l)) change) (sym pages_new) within)
        (long ∙ (count ∙ ap (λ (l : List Held). need (length (records_of l)) change) (sym pages_new))) own
        (subst Once holding_new (once_held law))
        (subst (λ (z : List ℕ × List Held). Linked (with_words new.view.own z.0) (link (drop (dropped_count (length (records_of z.1)) change) z.1) 0)) (λ i. (c.heads i, sym pages_new i)) linked)
        (ap (λ (l : List ℕ). records_of (with_words new.view.own l)) (sym c.heads) ∙ (fresh ∙ ap (λ (l : List Held). fresh_records (records_of l) change) (sym pages_new))) in record {
          first = c.from.back.node;
          stands = c.from.back.stands;
          parts = c.parts ++ (b ++ fills (page_of last ws) ∷ []);
          done = done_then cell (2 * c.from.back.node) c.parts (b ++ fills (page_of last ws) ∷ []) before now new c.done
              (done_then cell (2 * c.from.back.node) b (fills (page_of last ws) ∷ []) now mid new go.done (new, g, law.sound, refl));
          passed = passed;
          read = read;
          front = front.1;
          held = λ m. ap (λ (l : List ℕ). has l m) (holding_new ∙ sym (ap nodes_of front.0 ∙ nodes_with new.view.own (head ∷ c.tail)));
          free = λ m. omega (arith, only_new.lists m, ap (times m) c.from.idle);
          noted = ap (λ (l : List Held). nodes_of (drop 1 (take (dropped_count (length (records_of l)) change) l))) pages_new ∙ (noted ∙ sym (ap (λ (z : SeatData). z.noted) g.same));
          only = only_new;
        }

    -- with a record in the last node
    ends_with : (rec : List ℕ) (e : ℕ) → ws ≡ rec ++ e ∷ [] → length rec ≡ WIDTH → e < END
        → Linked (with_words new.view.own (c.filled ++ last ∷ [])) e × (records_of (with_words new.view.own (c.filled ++ last ∷ [])) ≡ take at records ++ rec ∷ [])
    ends_with rec e is wide low = record_more now.view.own new.view.own c.filled last e rec (take at records) words_kept (g.words_there ∙ is) wide low c.linked c.records

  pub goes_nowhere : GoesTo cell at head last c.from.back.node [] now now
  goes_nowhere = record { done = refl; only = only_none now; own = refl; holding = refl }

  -- a new value for the record at the place
  pub replaces : {new : SeatData} (val ws : List ℕ) → at < length records → ws ≡ with_value (record_in words) val ++ slice_index words WIDTH ∷ []
      → IsFilled last ws now new → IsSeat new → (rec : List ℕ) × (get_elem? records at ≡ some rec) × HasFront cell head (set at (with_value rec val)) before new
  replaces {new} val ws within is g law =
      let mine = held_own new law last (ap (λ (z : SeatData). has z.holding last) g.same ∙ last_held c) in
      let wide : length (with_value (record_in words) val) ≡ WIDTH =
      omega (arith, own_wide new law last mine, ap (length {A = ℕ}) (g.words_there ∙ is), length-append (with_value (record_in words) val) (slice_index words WIDTH ∷ [])) in
      let next = goes_to at (page_of c.node words) (omega arith) c.place in
      let last_one = ends_with goes_nowhere g law (with_value (record_in words) val) (slice_index words WIDTH) is wide (omega (arith, next, goes_low (suc at))) in (
        record_in words,
        record_here c (omega arith),
        ends goes_nowhere g law (set at (with_value (record_in words) val)) at (read_then c.parts (fills (page_of last ws) ∷ []) ∙ (append-nil (pages_read c.parts) ∙ c.read)) within refl
            (ap nodes_of (later_taken chain at) ∙ sym c.noted)
            (subst (λ e. Linked (with_words new.view.own (c.filled ++ last ∷ [])) e) next last_one.0) last_one.1,
      )

  -- the link after the place was passed and noted
  module _ {found : List ℕ} {noted : SeatData} (p : PassedOn c found noted) where
    pub goes_noted : GoesTo cell at head last c.from.back.node (parts_noted c p) now noted
    goes_noted = record {
      done = noted_done c p;
      only = only_then (only_passed c.law.sound p.noting.passes) (only_noted (slice_index words WIDTH - 1) p.noting.notes);
      own = (stays c p).own;
      holding = (stays c p).holding;
    }

    -- the record after the first place falls out
    pub removes_later : {new : SeatData} → IsSeat new → IsFilled last (record_in words ++ slice_index found WIDTH ∷ []) noted new → 0 < length records → suc at < length records
        → HasFront cell head (out (suc at)) before new
    removes_later {new} last_law g some_there within =
        let later : eqb (suc at) 0 ≡ false = ne_eqb (suc at) 0 (λ e. absurd (omega arith)) in
        let next = goes_to (suc at) (page_of (slice_index words WIDTH - 1) found) some_there (noted_place c p) in
        let dropped : dropped_count (length records) (out (suc at)) ≡ suc (suc at) = cond-false (eqb (suc at) 0) (cond (eqb (length records) 1) 1 2) (suc (suc at)) later in
        let one = ends_with goes_noted g last_law (record_in words) (slice_index found WIDTH) refl (record_wide c) (omega (arith, next, goes_low (suc (suc at)))) in
        ends goes_noted g last_law (out (suc at)) (suc at) (noted_read c p (fills (page_of last (record_in words ++ slice_index found WIDTH ∷ [])) ∷ []) refl) within
        (sym (cond-false (eqb (suc at) 0) 1 (suc at) later))
        (ap (λ d. nodes_of (drop 1 (take d chain))) dropped ∙ (ap nodes_of (later_taken chain (suc at)) ∙ sym (noted_all c p)))
        (subst (λ e. Linked (with_words new.view.own (c.filled ++ last ∷ [])) e) (next ∙ ap (λ d. link (drop d chain) 0) (sym dropped)) one.0)
        (one.1 ∙ (sym (take_to records at (record_in words) (record_here c some_there))
        ∙ sym (cond-false (eqb (suc at) 0) (take 1 (drop 1 records)) (take (suc at) records) later)))

-- THE FIRST RECORD FALLS OUT
long_link : (l : List Held) → link l 0 ≢ 0 → 0 < length l
long_link [] ne = absurd (ne refl)
long_link (x ∷ l) ne = omega arith

no_link : (l : List Held) → link l 0 ≡ 0 → length l ≡ 0
no_link [] none = refl
no_link (x ∷ l) none = absurd (omega arith)

none_later : (rs : List (List ℕ)) → length rs ≡ 1 → take 1 (drop 1 rs) ≡ []
none_later [] long = refl
none_later (r ∷ []) long = refl
none_later (r ∷ s ∷ rs) long = absurd (omega arith)

module _ {cell head last : ℕ} {words : List ℕ} {before now : SeatData} (c : IsCopying cell 0 head last words before now) (some_there : 0 < length (claimed_records before.view)) where
  first_goes : slice_index words WIDTH ≡ link (drop 1 (claimed_pages before.view)) 0
  first_goes = goes_to c 0 (page_of c.node words) some_there c.place

  as_long : length (claimed_records before.view) ≡ length (claimed_pages before.view)
  as_long = full_chain (claimed_pages before.view) (back_claim cell before.view c.from.law.sound c.from.back).counted some_there

  pub more_there : slice_index words WIDTH ≢ 0 → 1 < length (claimed_records before.view)
  more_there ne = omega (arith, as_long, length-drop 1 (claimed_pages before.view), long_link (drop 1 (claimed_pages before.view)) (λ e. ne (first_goes ∙ e)))

  one_there : slice_index words WIDTH ≡ 0 → length (claimed_records before.view) ≡ 1
  one_there none = omega (arith, as_long, length-drop 1 (claimed_pages before.view), no_link (drop 1 (claimed_pages before.view)) (sym first_goes ∙ none))

  -- the record after it is copied
  pub removes_first : {found : List ℕ} {noted new : SeatData} → PassedOn c found noted → IsSeat new → IsFilled last found noted new → 1 < length (claimed_records before.view)
      → HasFront cell head (out 0) before new
  removes_first {found} {new = new} p last_law g within =
      let chain : List Held = claimed_pages before.view in
      let records : List (List ℕ) = claimed_records before.view in
      let go = goes_noted c p in
      let page : Held = page_of (slice_index words WIDTH - 1) found in
      let place = noted_place c p in
      let next = goes_to c 1 page some_there place in
      let wide : length found ≡ NODE_WIDTH = ((back_claim cell before.view c.from.law.sound c.from.back).node 1 page place).wide in
      let dropped : dropped_count (length records) (out 0) ≡ 2 = cond-false (eqb (length records) 1) 1 2 (ne_eqb (length records) 1 (λ e. absurd (omega arith))) in
      let split : found ≡ record_in found ++ slice_index found WIDTH ∷ [] = sym (take_all (WIDTH + 1) found (omega arith)) ∙ take_more found WIDTH 0 (omega arith) in
      let there = (full_at chain 1 page as_long place).1 in
      let one = ends_with c go g last_law (record_in found) (slice_index found WIDTH) split (omega (arith, length-take WIDTH found)) (omega (arith, next, goes_low c 2)) in
      ends c go g last_law (out 0) 1 (noted_read c p (fills (page_of last found) ∷ []) refl) (omega arith) refl
      (ap (λ d. nodes_of (drop 1 (take d chain))) dropped ∙ (ap nodes_of (later_taken chain 1) ∙ sym (noted_all c p)))
      (subst (λ e. Linked (with_words new.view.own (c.filled ++ last ∷ [])) e) (next ∙ ap (λ d. link (drop d chain) 0) (sym dropped)) one.0)
      (one.1 ∙ sym (take_to (drop 1 records) 0 (record_in found) (at_later records 0 (record_in found) there)))

  -- it is the only one
  pub removes_only : {new : SeatData} → IsFilled last (zeros ++ END ∷ []) now new → IsSeat new → slice_index words WIDTH ≡ 0 → HasFront cell head (out 0) before new
  removes_only {new} g law none =
      let chain : List Held = claimed_pages before.view in
      let records : List (List ℕ) = claimed_records before.view in
      let dropped : dropped_count (length records) (out 0) ≡ 1 = cond-true (eqb (length records) 1) 1 2 (eq-eqb (length records) 1 (one_there none)) in
      let alone : c.filled ++ last ∷ [] ≡ last ∷ [] = ap (λ (l : List ℕ). l ++ last ∷ []) (nil_from_length c.filled c.long) in
      let next : get_or (words_in new.view.own last) (NODE_WIDTH - 1) 0 ≡ END = next_word (words_in new.view.own last) zeros END g.words_there refl in
      let end = eq-eqb (get_or (words_in new.view.own last) (NODE_WIDTH - 1) 0) END next in
      ends c (goes_nowhere c) g law (out 0) 0 (read_then c.parts (fills (page_of last (zeros ++ END ∷ [])) ∷ []) ∙ (append-nil (pages_read c.parts) ∙ c.read)) (omega arith) refl
      (ap (λ d. nodes_of (drop 1 (take d chain))) dropped ∙ (ap nodes_of (later_taken chain 0) ∙ sym c.noted))
      (subst (λ (l : List ℕ). Linked (with_words new.view.own l) (link (drop (dropped_count (length records) (out 0)) chain) 0)) (sym alone) (
        cond-true (eqb (get_or (words_in new.view.own last) (NODE_WIDTH - 1) 0) END) 0 (get_or (words_in new.view.own last) (NODE_WIDTH - 1) 0) end
            ∙ (sym none ∙ (first_goes ∙ ap (λ d. link (drop d chain) 0) (sym dropped))),
        tt,
      ))
      (ap (λ (l : List ℕ). records_of (with_words new.view.own l)) alone
      ∙ (cond-true (eqb (get_or (words_in new.view.own last) (NODE_WIDTH - 1) 0) END) [] (record_in (words_in new.view.own last) ∷ []) end ∙ sym (none_later records (one_there none))))
