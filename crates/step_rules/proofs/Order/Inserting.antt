-- Fronts for inserts: the new record's node comes first, and beside other records a copy of the claimed first node comes after it.
use Rattle.std.proofs.Common.{◌≡◌, ◌≢◌, ◌∙◌, ℕ, ◌+◌, ◌-◌, ◌<◌, suc, true, false, cond, eqb, ne_eqb, List, [], ◌∷◌, ◌++◌, length, take, drop, get_or}
use Rattle.std.proofs.Common.{refl, sym, ap, subst, arith, ⊎_elim}
use Rattle.std.proofs.lemmas.Bool.{cases_Bool, eqb-true, false_from_ne_true, or_cases}
use Rattle.seat_history.specs.declared.words.TheConstants.{WIDTH}
use Rattle.step_rules.proofs.Numbers.Bags.{one_there}
use Rattle.step_rules.proofs.Order.Fronting.{ends_not, front_is, next_is, next_word, record_words}
use Rattle.step_rules.proofs.Order.Pages.{first_record, is_end, page_tells}
use Rattle.step_rules.specs.Claims.{BACK, IsClaim}
use Rattle.step_rules.specs.Fronts.{IsFront, front_of}
use Rattle.step_rules.specs.Records.{put, record_in, records_of}
use Rattle.step_rules.specs.Views.{claim_of, claimed_records, followed, words_in}
use Rattle.step_rules.specs.World.{END, Linked, Once, has, link, next_of, nodes_of}
use Rattle.step_rules.specs.declared.layout.TheConstants.{NODE_WIDTH}
use Rattle.step_rules.specs.declared.view.Held.{Held}
use Rattle.step_rules.specs.declared.view.View.{View}

-- the node n has the record and goes on to the node m, another one, which has these words
pub record GoesBefore (n m : ℕ) (rec image : List ℕ) (own : List Held) : Type 0 where
  pub link : has (nodes_of own) m ≡ true
  pub apart : n ≢ m
  pub low : m + 1 < END
  pub first : words_in own n ≡ rec ++ (m + 1) ∷ []
  pub second : words_in own m ≡ image

-- own nodes for a new record before those of the claimed chain: n alone where the chain has none, else n and then m, a copy of its first node
pub record PutsBefore (n m head : ℕ) (rec : List ℕ) (v : View) : Type 0 where
  pub told : IsClaim v.plan v.seen (claim_of BACK v) head
  pub wide : length rec ≡ WIDTH
  pub mine : has (nodes_of v.own) n ≡ true
  pub alone : is_end (claim_of BACK v).image ≡ true → words_in v.own n ≡ rec ++ 0 ∷ []
  pub before : is_end (claim_of BACK v).image ≡ false → GoesBefore n m rec (claim_of BACK v).image v.own

module _ {n m head : ℕ} {rec : List ℕ} {v : View} (puts : PutsBefore n m head rec v) where
  abbrev image : List ℕ
  image = (claim_of BACK v).image

  abbrev ws : List ℕ
  ws = words_in v.own n

  image_next : next_of image ≡ link puts.told.rest 0
  image_next = (subst (λ l. Linked l 0) puts.told.heads puts.told.linked).0

  -- own nodes that are the front
  of_front : (front : List Held) → front_of n (put rec) v ≡ front → ((j : ℕ) → has (nodes_of front) j ≡ true → has (nodes_of v.own) j ≡ true) → Once (nodes_of front)
      → Linked front (link puts.told.rest 0) → records_of front ≡ rec ∷ take 1 (claimed_records v) → IsFront n (put rec) v
  of_front front is own once linked records =
      front_is front puts.told tt is own once (subst (λ (l : List Held). Linked front (link l 0)) (sym (ap (drop 1) puts.told.heads)) linked) records

  -- into an empty bucket
  pub none_there : is_end image ≡ true → claimed_records v ≡ []
  none_there end = puts.told.records ∙ (page_tells v.plan v.seen (claim_of BACK v) head puts.told).none end

  pub front_alone : is_end image ≡ true → front_of n (put rec) v ≡ record { node = n; words = ws } ∷ []
  front_alone end = ap (λ (l : List (List ℕ)). followed v.own n (cond (eqb (length l) 0) 1 2)) (none_there end)

  into_empty : is_end image ≡ true → IsFront n (put rec) v
  into_empty end =
      let words = puts.alone end in
      let next = next_word ws rec 0 words puts.wide in
      let none = none_there end in of_front (record { node = n; words = ws } ∷ []) (front_alone end)
      (λ j h. subst (λ i. has (nodes_of v.own) i ≡ true) (one_there n j h) puts.mine)
      (refl, tt)
      (next_is ws 0 next (omega arith) ∙ (sym (ap (λ b. cond b 0 (get_or image (NODE_WIDTH - 1) 0)) end) ∙ image_next), tt)
      (first_record (record { node = n; words = ws }) [] (ends_not ws 0 next (omega arith)) ∙ (λ i. record_words ws rec 0 words puts.wide i ∷ take 1 (sym none i)))

  -- beside other records
  some_there : is_end image ≡ false → (rest : List (List ℕ)) × (claimed_records v ≡ record_in image ∷ rest)
  some_there end = let claim = (page_tells v.plan v.seen (claim_of BACK v) head puts.told).some end in (claim.0, puts.told.records ∙ claim.1)

  to_second : is_end image ≡ false → get_or ws (NODE_WIDTH - 1) 0 ≡ m + 1
  to_second end = next_word ws rec (m + 1) (puts.before end).first puts.wide

  pub front_before : is_end image ≡ false → front_of n (put rec) v ≡ record { node = n; words = ws } ∷ record { node = m; words = image } ∷ []
  front_before end =
      let g = puts.before end in
      let found = some_there end in
      let more : eqb (suc (length found.0)) 0 ≡ false = ne_eqb (suc (length found.0)) 0 (λ e. absurd (omega arith)) in
      let to : next_of ws - 1 ≡ m = let e = next_is ws (m + 1) (to_second end) g.low in omega arith in
      let second : words_in v.own (next_of ws - 1) ≡ image = ap (words_in v.own) to ∙ g.second in
      ap (λ (l : List (List ℕ)). followed v.own n (cond (eqb (length l) 0) 1 2)) found.1
      ∙ (ap (λ b. followed v.own n (cond b 1 2)) more ∙ (λ i. record { node = n; words = ws } ∷ record { node = to i; words = second i } ∷ []))

  beside : is_end image ≡ false → IsFront n (put rec) v
  beside end =
      let g = puts.before end in
      let found = some_there end in
      let next = to_second end in of_front (record { node = n; words = ws } ∷ record { node = m; words = image } ∷ []) (front_before end)
      (λ j h. ⊎_elim
      (λ e. subst (λ i. has (nodes_of v.own) i ≡ true) (eqb-true n j e) puts.mine)
      (λ e. subst (λ i. has (nodes_of v.own) i ≡ true) (one_there m j e) g.link)
      (or_cases (eqb n j) (has (m ∷ []) j) h))
      (false_from_ne_true (has (m ∷ []) n) (λ h. g.apart (sym (one_there m n h))), (refl, tt))
      (next_is ws (m + 1) next g.low ∙ omega arith, (image_next, tt))
      (first_record (record { node = n; words = ws }) (record { node = m; words = image } ∷ []) (ends_not ws (m + 1) next g.low)
      ∙ ((λ i. record_words ws rec (m + 1) g.first puts.wide i ∷ first_record (record { node = m; words = image }) [] end i) ∙ ap (λ l. rec ∷ take 1 l) (sym found.1)))

  pub insert_front : IsFront n (put rec) v
  insert_front = ⊎_elim into_empty beside (cases_Bool (is_end image))
