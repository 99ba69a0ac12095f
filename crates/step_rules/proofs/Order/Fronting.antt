-- Own nodes as the front of a claimed chain, whatever the change.
use Rattle.std.proofs.Common.{◌≡◌, ◌∙◌, ℕ, ◌-◌, ◌<◌, suc, true, false, cond, eqb, eq-eqb, ne_eqb, List, [], ◌∷◌, ◌++◌, length, take, drop, get_or, refl, sym, ap, subst, arith}
use Rattle.std.proofs.Math.Seq.{get_or-append_seam, take-append_seam}
use Rattle.std.proofs.lemmas.Bool.{cond-false, or_left, or_right}
use Rattle.std.proofs.lemmas.List.{length-take, take-append-drop}
use Rattle.step_rules.proofs.World.Chains.{link-append}
use Rattle.step_rules.proofs.Order.Edits.{chain_edit, records_of-append}
use Rattle.step_rules.proofs.Order.Fronts.{dropped_within, length-followed}
use Rattle.seat_history.specs.declared.words.TheConstants.{WIDTH}
use Rattle.step_rules.proofs.Order.Pages.{first_record, is_end}
use Rattle.step_rules.specs.Claims.{BACK, IsClaim}
use Rattle.step_rules.specs.Fronts.{IsFront, front_of, rest_of, with_words}
use Rattle.step_rules.specs.Records.{Edit, IsCounted, Within, dropped_count, edited, fresh_records, need, record_in, records_of}
use Rattle.step_rules.specs.Views.{claim_of, claimed_pages, claimed_records, followed, words_in}
use Rattle.step_rules.specs.World.{END, Linked, Once, has, link, next_of, nodes_of}
use Rattle.step_rules.specs.declared.layout.TheConstants.{NODE_WIDTH}
use Rattle.step_rules.specs.declared.view.Held.{Held}
use Rattle.step_rules.specs.declared.view.View.{View}

-- a front with the records of a change, before what the change keeps
whole_records : (pages front : List Held) (e : Edit) → IsCounted pages → Within (length (records_of pages)) e → length front ≡ need (length (records_of pages)) e
    → records_of front ≡ fresh_records (records_of pages) e → records_of (front ++ drop (dropped_count (length (records_of pages)) e) pages) ≡ edited (records_of pages) e
whole_records pages front e counted within long records =
    let count : ℕ = dropped_count (length (records_of pages)) e in
    let split : take count pages ++ drop count pages ≡ pages = take-append-drop count pages in
    let dropped : length (take count pages) ≡ count = omega (arith, length-take count pages, dropped_within (length (records_of pages)) e within, counted) in
    let back : (l : List Held) → l ≡ pages → length (take count pages) ≡ dropped_count (length (records_of l)) e =
    λ l is. dropped ∙ ap (λ (z : List Held). dropped_count (length (records_of z)) e) (sym is) in
    (chain_edit (take count pages) (drop count pages) front e (subst IsCounted (sym split) counted) (subst (λ (l : List Held). Within (length (records_of l)) e) (sym split) within)
    (back (take count pages ++ drop count pages) split)
    (long ∙ ap (λ (l : List Held). need (length (records_of l)) e) (sym split))
    (records ∙ ap (λ (l : List Held). fresh_records (records_of l) e) (sym split))).0
    ∙ ap (λ (l : List Held). edited (records_of l) e) split

-- the words of a node with this record and this next word
pub next_word : (ws rec : List ℕ) (y : ℕ) → ws ≡ rec ++ y ∷ [] → length rec ≡ WIDTH → get_or ws (NODE_WIDTH - 1) 0 ≡ y
next_word ws rec y is wide = ap (λ l. get_or l (NODE_WIDTH - 1) 0) is ∙ (ap (λ i. get_or (rec ++ y ∷ []) i 0) (sym wide) ∙ get_or-append_seam rec y [] 0)

pub record_words : (ws rec : List ℕ) (y : ℕ) → ws ≡ rec ++ y ∷ [] → length rec ≡ WIDTH → record_in ws ≡ rec
record_words ws rec y is wide = ap (take WIDTH) is ∙ (ap (λ i. take i (rec ++ y ∷ [])) (sym wide) ∙ take-append_seam rec (y ∷ []))

not_end : (y : ℕ) → y < END → eqb y END ≡ false
not_end y low = ne_eqb y END (λ e. absurd (omega arith))

pub next_is : (ws : List ℕ) (y : ℕ) → get_or ws (NODE_WIDTH - 1) 0 ≡ y → y < END → next_of ws ≡ y
next_is ws y e low = ap (λ z. cond (eqb z END) 0 z) e ∙ cond-false (eqb y END) 0 y (not_end y low)

pub ends_not : (ws : List ℕ) (y : ℕ) → get_or ws (NODE_WIDTH - 1) 0 ≡ y → y < END → is_end ws ≡ false
ends_not ws y e low = ap (λ z. eqb z END) e ∙ not_end y low

-- own nodes that are the front
pub front_is : {n head : ℕ} {change : Edit} {v : View} (front : List Held) → IsClaim v.plan v.seen (claim_of BACK v) head → Within (length (claimed_records v)) change
    → front_of n change v ≡ front → ((m : ℕ) → has (nodes_of front) m ≡ true → has (nodes_of v.own) m ≡ true) → Once (nodes_of front)
    → Linked front (link (rest_of change v) 0) → records_of front ≡ fresh_records (claimed_records v) change → IsFront n change v
front_is {n} {change = change} {v = v} front told within is own once linked records =
    let long : length (front_of n change v) ≡ need (length (claimed_records v)) change = length-followed v.own n (need (length (claimed_records v)) change) in
    let all : records_of (front_of n change v) ≡ fresh_records (claimed_records v) change = ap records_of is ∙ records in record {
      own = subst (λ l. (m : ℕ) → has (nodes_of l) m ≡ true → has (nodes_of v.own) m ≡ true) (sym is) own;
      once = subst (λ l. Once (nodes_of l)) (sym is) once;
      linked = subst (λ l. Linked l (link (rest_of change v) 0)) (sym is) linked;
      records = all;
      whole = whole_records (claimed_pages v) (front_of n change v) change told.counted within long all;
    }

-- own nodes, each with its words
pub nodes_with : (own : List Held) (ns : List ℕ) → nodes_of (with_words own ns) ≡ ns
nodes_with own [] = refl
nodes_with own (n ∷ ns) = ap (λ l. n ∷ l) (nodes_with own ns)

pub with_more : (own : List Held) (ns : List ℕ) (n : ℕ) → with_words own (ns ++ n ∷ []) ≡ with_words own ns ++ record { node = n; words = words_in own n } ∷ []
with_more own [] n = refl
with_more own (m ∷ ns) n = ap (λ l. record { node = m; words = words_in own m } ∷ l) (with_more own ns n)

pub with_same : (own own' : List Held) (ns : List ℕ) → ((m : ℕ) → has ns m ≡ true → words_in own' m ≡ words_in own m) → with_words own' ns ≡ with_words own ns
with_same own own' [] same = refl
with_same own own' (n ∷ ns) same =
    (λ i. record { node = n; words = same n (or_left (eqb n n) (has ns n) (eq-eqb n n refl)) i } ∷ with_same own own' ns (λ m h. same m (or_right (eqb n m) (has ns m) h)) i)

pub followed_with : (own : List Held) (n : ℕ) (ns : List ℕ) (e : ℕ) → Linked (with_words own (n ∷ ns)) e → followed own n (length (n ∷ ns)) ≡ with_words own (n ∷ ns)
followed_with own n [] e linked = refl
followed_with own n (m ∷ ns) e linked =
    let next : next_of (words_in own n) - 1 ≡ m = let l = linked.0 in omega arith in
    ap (λ k. record { node = n; words = words_in own n } ∷ followed own k (suc (length ns))) next
    ∙ ap (λ (l : List Held). record { node = n; words = words_in own n } ∷ l) (followed_with own m ns e linked.1)

-- one more node, at the end
pub linked_more : (xs : List Held) (y : Held) (e : ℕ) → Linked xs (suc y.node) → next_of y.words ≡ e → Linked (xs ++ y ∷ []) e
linked_more [] y e linked next = (next, tt)
linked_more (x ∷ xs) y e linked next = (linked.0 ∙ link-append xs (y ∷ []) e, linked_more xs y e linked.1 next)

-- a node with this record, which goes on to e, after nodes that keep their words and have these records
pub record_more : (own own' : List Held) (ns : List ℕ) (n e : ℕ) (rec : List ℕ) (rs : List (List ℕ)) → ((m : ℕ) → has ns m ≡ true → words_in own' m ≡ words_in own m)
    → words_in own' n ≡ rec ++ e ∷ [] → length rec ≡ WIDTH → e < END → Linked (with_words own ns) (suc n) → records_of (with_words own ns) ≡ rs
    → Linked (with_words own' (ns ++ n ∷ [])) e × (records_of (with_words own' (ns ++ n ∷ [])) ≡ rs ++ rec ∷ [])
record_more own own' ns n e rec rs same words wide low linked records =
    let last : Held = record { node = n; words = words_in own' n } in
    let all : with_words own' (ns ++ n ∷ []) ≡ with_words own ns ++ last ∷ [] = with_more own' ns n ∙ ap (λ (l : List Held). l ++ last ∷ []) (with_same own own' ns same) in
    let next : get_or (words_in own' n) (NODE_WIDTH - 1) 0 ≡ e = next_word (words_in own' n) rec e words wide in
    let one : records_of (last ∷ []) ≡ rec ∷ [] = first_record last [] (ends_not (words_in own' n) e next low) ∙ ap (λ (r : List ℕ). r ∷ []) (record_words (words_in own' n) rec e words wide) in (
      subst (λ (l : List Held). Linked l e) (sym all) (linked_more (with_words own ns) last e linked (next_is (words_in own' n) e next low)),
      ap records_of all ∙ (records_of-append (with_words own ns) (last ∷ []) ∙ (λ i. records i ++ one i)),
    )

-- nodes in their order, the front of a change
pub front_with : {n head : ℕ} {change : Edit} {v : View} (ns : List ℕ) → IsClaim v.plan v.seen (claim_of BACK v) head → Within (length (claimed_records v)) change
    → length (n ∷ ns) ≡ need (length (claimed_records v)) change → ((m : ℕ) → has (n ∷ ns) m ≡ true → has (nodes_of v.own) m ≡ true) → Once (n ∷ ns)
    → Linked (with_words v.own (n ∷ ns)) (link (rest_of change v) 0) → records_of (with_words v.own (n ∷ ns)) ≡ fresh_records (claimed_records v) change
    → (front_of n change v ≡ with_words v.own (n ∷ ns)) × IsFront n change v
front_with {n} {change = change} {v = v} ns told within long own once linked records =
    let is : front_of n change v ≡ with_words v.own (n ∷ ns) = ap (λ k. followed v.own n k) (sym long) ∙ followed_with v.own n ns (link (rest_of change v) 0) linked in
    let same : nodes_of (with_words v.own (n ∷ ns)) ≡ n ∷ ns = nodes_with v.own (n ∷ ns) in (
      is,
      front_is (with_words v.own (n ∷ ns)) told within is (subst (λ l. (m : ℕ) → has l m ≡ true → has (nodes_of v.own) m ≡ true) (sym same) own)
          (subst Once (sym same) once) linked records,
    )
