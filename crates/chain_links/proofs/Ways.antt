-- A walk as far as it has come, and at its end.
use Rattle.std.proofs.Common.{◌≡◌, ◌≢◌, ◌∙◌, ℕ, ◌+◌, ◌*◌, ◌-◌, ◌/◌, ◌^◌, ◌<◌, ◌≤◌, suc, true, List, [], ◌∷◌, ◌++◌, Some, length, drop, append_assoc, length-append, refl, sym, ap, subst, arith}
use mathlib.Core.Option.{some}
use lib.ListN.{get_elem?}
use Rattle.chain_links.proofs.Seeking.{Seeks, at_front, ends_empty, ends_last, finds, link_on, next_word, seeks_all, seeks_on}
use Rattle.chain_links.proofs.Another.{come_unchanged, strayed_another}
use Rattle.chain_links.proofs.Passing.{back_claim, claim_at_low, come_kept, come_sound, kept_back, kept_pages, passed_words}
use Rattle.chain_links.specs.Walking.{HasBack, HasCome, HasPassed, HasStrayed, IsWalked, MadeNoChange}
use Rattle.chain_links.specs.declared.answers.Walk.TheVariants.{Found, End, Moved}
use Rattle.node_pool.specs.Pool.{IsRead}
use Rattle.seat_history.specs.Key.{key_number}
use Rattle.seat_history.specs.declared.key.KeyWords.{KeyWords}
use Rattle.step_rules.proofs.Ties.Owns.{words_at}
use Rattle.step_rules.proofs.Numbers.Sets.{at_has, at_most_below, has_at, length-nodes_of}
use Rattle.step_rules.proofs.World.Sizes.{nodes_low}
use Rattle.step_rules.specs.Claims.{BACK, IsClaim, On}
use Rattle.step_rules.specs.Layout.{nodes}
use Rattle.step_rules.specs.Records.{key_in, record_in}
use Rattle.step_rules.specs.SeatData.{IsSeat, SeatData}
use Rattle.step_rules.specs.Sound.{Sound}
use Rattle.step_rules.specs.Views.{claim_of, claimed_pages, words_in}
use Rattle.step_rules.specs.World.{has, nodes_of}
use Rattle.step_rules.specs.declared.layout.TheConstants.{END}
use Rattle.step_rules.specs.declared.view.Held.{Held}
use Rattle.step_rules.specs.declared.view.View.{View}

abbrev pub page_of : ℕ → List ℕ → Held
page_of node words = record { node = node; words = words }

-- the node with these words at the place `at` of the claimed chain was read, and none before it has the key
pub record OnTheWay (cell first : ℕ) (key : KeyWords) (at : ℕ) (words : List ℕ) (old now : SeatData) : Type 0 where
  pub sound : Sound old.view
  pub back : HasBack cell old.view
  pub unchanged : MadeNoChange cell old.view
  pub first_is : first ≡ back.node
  pub come : HasCome cell (2 * first) at old now
  pub law : IsSeat now
  pub front : List Held
  pub node : ℕ
  pub rest : List Held
  pub parts : claimed_pages old.view ≡ front ++ page_of node words ∷ rest
  pub long : length front ≡ at
  pub seeks : Seeks (key_number key) at (claimed_pages old.view) (page_of node words ∷ rest)

pub starts : (cell first : ℕ) (key : KeyWords) (words : List ℕ) (old now : SeatData) → Sound old.view → IsSeat now → (b : HasBack cell old.view) → MadeNoChange cell old.view → first ≡ b.node
    → IsRead first words old now
    → OnTheWay cell first key 0 words old now
starts cell first key words old now sound law b unchanged is r =
    let claim = back_claim cell old.view sound b in
    let image : words ≡ (claim_of BACK old.view).image =
    r.claimed BACK (claim_of BACK old.view) (claim_at_low BACK old.view sound (omega arith)) (subst (λ n. On (claim_of BACK old.view) n) (sym is) b.stands) in
    let parts : claimed_pages old.view ≡ page_of first words ∷ claim.rest = claim.heads ∙ (λ i. record { node = sym is i; words = sym image i } ∷ claim.rest) in record {
      sound = sound;
      back = b;
      unchanged = unchanged;
      first_is = is;
      come = (page_of first words, ap (λ (l : List Held). get_elem? l 0) parts, r, law.sound);
      law = law;
      front = [];
      node = first;
      rest = claim.rest;
      parts = parts;
      long = refl;
      seeks = subst (λ (l : List Held). Seeks (key_number key) 0 (claimed_pages old.view) l) parts (seeks_all (key_number key) (claimed_pages old.view));
    }

-- the number in Back's word
pub first_node : (c word cell : ℕ) (v : View) → (b : HasBack cell v) → c ≡ BACK → word ≡ (claim_of c v).word → word - 1 ≡ b.node
first_node c word cell v b back is = omega (arith, is, ap (λ n. (claim_of n v).word) back, b.stands.at)

-- it is small
pub first_low : (cell : ℕ) (v : View) → Sound v → (b : HasBack cell v) → b.node < 2 ^ 32
first_low cell v sound b = omega (arith, (sound.claims.there BACK b.node (claim_of BACK v) (claim_at_low BACK v sound (omega arith)) b.stands).0, nodes_low v.plan sound.plan)

module _ {cell first : ℕ} {key : KeyWords} {at : ℕ} {words : List ℕ} {old now : SeatData} (way : OnTheWay cell first key at words old now) where
  sound : Sound old.view
  sound = way.sound

  abbrev b : HasBack cell old.view
  b = way.back

  is : first ≡ b.node
  is = way.first_is

  abbrev pages : List Held
  pages = claimed_pages old.view

  abbrev page : Held
  page = page_of way.node words

  claim : IsClaim old.view.plan old.view.seen (claim_of BACK old.view) b.node
  claim = back_claim cell old.view sound b

  pub there : at < length pages
  there = omega (arith, way.long, ap (λ (l : List Held). length l) way.parts, length-append way.front (page ∷ way.rest))

  short : length pages ≤ nodes old.view.plan
  short = omega (
    arith,
    length-nodes_of pages,
    at_most_below (nodes_of pages) (nodes old.view.plan) claim.once
        (λ n h. let f = at_has pages n h in subst (λ m. m < nodes old.view.plan) f.3 (claim.node f.0 f.1 f.2).there),
  )

  pub few : at + 1 < 2 ^ 32
  few = omega (arith, there, short, nodes_low old.view.plan sound.plan)

  pub empty : next_word words ≡ END → IsWalked cell key (End 0) old now
  empty e =
      let d = ends_empty (key_number key) at pages way.front way.rest page way.parts way.long claim.linked way.seeks claim.counted e in record {
        node = b.node;
        back = b.stands;
        says = (subst (λ (z : ℕ × ℕ). HasCome cell (2 * z.0) z.1 old now) (λ i. (is i, d.0 i)) way.come, d.1, d.2);
      }

  pub found : (val : List ℕ) → next_word words ≢ END → key_in (record_in words) ≡ key_number key → val ≡ drop 2 (record_in words) → IsWalked cell key (Found at val) old now
  found val ne same value =
      let d = finds (key_number key) at pages way.front way.rest page way.parts way.long claim.linked way.seeks ne same in record {
        node = b.node;
        back = b.stands;
        says = (subst (λ n. HasCome cell (2 * n) at old now) is way.come, d.0, d.1 ∙ ap (λ (l : List ℕ). Some l) (sym value));
      }

  pub last : next_word words ≢ END → key_in (record_in words) ≢ key_number key → next_word words ≡ 0 → IsWalked cell key (End (at + 1)) old now
  last ne apart none =
      let d = ends_last (key_number key) at pages way.front way.rest page way.parts way.long claim.linked way.seeks ne apart none in
      let before : at ≡ at + 1 - 1 = omega arith in record {
        node = b.node;
        back = b.stands;
        says = (subst (λ (z : ℕ × ℕ). HasCome cell (2 * z.0) z.1 old now) (λ i. (is i, before i)) way.come, d.0, d.1);
      }

  -- the link that comes next
  pub record Next (link : ℕ) : Type 0 where
    pub held : Held
    pub rest : List Held
    pub is_next : way.rest ≡ held ∷ rest
    pub node_is : held.node ≡ link
    pub place : get_elem? pages (suc at) ≡ some held

  pub next : (link : ℕ) → next_word words ≢ END → next_word words ≢ 0 → link ≡ next_word words - 1 → Next link
  next link ne some_next link_is =
      let l = link_on (key_number key) at pages way.front way.rest page way.parts way.long claim.linked way.seeks ne some_next in record {
        held = l.0;
        rest = l.1;
        is_next = l.2;
        node_is = l.3 ∙ sym link_is;
        place = (λ i. get_elem? (next_parts l.0 l.1 l.2 i) (next_long i)) ∙ at_front (way.front ++ page ∷ []) l.0 l.1;
      }
    where
      next_parts : (h : Held) (r : List Held) → way.rest ≡ h ∷ r → pages ≡ (way.front ++ page ∷ []) ++ h ∷ r
      next_parts h r e = way.parts ∙ (ap (λ (l : List Held). way.front ++ page ∷ l) e ∙ sym (append_assoc way.front (page ∷ []) (h ∷ r)))

      next_long : suc at ≡ length (way.front ++ page ∷ [])
      next_long = omega (arith, way.long, length-append way.front (page ∷ []))

  pub link_low : (link : ℕ) → Next link → link < 2 ^ 32
  link_low link n = omega (arith, (claim.node (suc at) n.held n.place).there, n.node_is, nodes_low old.view.plan sound.plan)

  pub on_chain : (link : ℕ) → Next link → has (nodes_of (claimed_pages now.view)) link ≡ true
  on_chain link n = subst (λ (z : ℕ × List Held). has (nodes_of z.1) z.0 ≡ true) (λ i. (n.node_is i, sym (kept_pages (come_kept cell (2 * first) at old now way.come)) i))
      (has_at pages (suc at) n.held n.place)

  pub back_still : (d : HasBack cell now.view) × (d.node ≡ 2 * first / 2)
  back_still = let k = kept_back (come_kept cell (2 * first) at old now way.come) b in (k, omega (arith, way.first_is))

  pub goes_on : (link : ℕ) (read : List ℕ) (new : SeatData) → Next link → next_word words ≢ END → key_in (record_in words) ≢ key_number key
      → HasPassed cell (2 * first) (page_of link read) now new → IsSeat new → OnTheWay cell first key (at + 1) read old new
  goes_on link read new n ne apart h law =
      let same : read ≡ n.held.words = passed_words cell (2 * first) (page_of link read) now new (come_sound cell (2 * first) at old now way.come) h
      ∙ (ap (λ (l : List Held). words_in l link) (kept_pages (come_kept cell (2 * first) at old now way.come)) ∙ words_at link pages (suc at) n.held claim.once n.place n.node_is) in
      let held_is : n.held ≡ page_of link read = λ i. record { node = n.node_is i; words = sym same i } in
      let place : get_elem? pages (suc at) ≡ some (page_of link read) = n.place ∙ ap (λ (g : Held). some g) held_is in
      let tail : way.rest ≡ page_of link read ∷ n.rest = n.is_next ∙ ap (λ (g : Held). g ∷ n.rest) held_is in
      let more : suc at ≡ at + 1 = omega arith in record {
        sound = way.sound;
        back = way.back;
        unchanged = way.unchanged;
        first_is = way.first_is;
        come = subst (λ m. HasCome cell (2 * first) m old new) more (now, page_of link read, way.come, place, h);
        law = law;
        front = way.front ++ page ∷ [];
        node = link;
        rest = n.rest;
        parts = way.parts ∙ (ap (λ (l : List Held). way.front ++ page ∷ l) tail ∙ sym (append_assoc way.front (page ∷ []) (page_of link read ∷ n.rest)));
        long = omega (arith, way.long, length-append way.front (page ∷ []));
        seeks = subst (λ (z : ℕ × List Held). Seeks (key_number key) z.0 pages z.1) (λ i. (more i, tail i))
            (seeks_on (key_number key) at pages way.front way.rest page way.parts way.long claim.linked way.seeks ne apart);
      }

  pub moved : (link : ℕ) (new : SeatData) → Next link → HasStrayed cell (2 * first) link now new → IsWalked cell key Moved old new
  moved link new n h = record {
    node = b.node;
    back = b.stands;
    says = record {
      passed = at;
      mid = now;
      page = n.held;
      come = subst (λ m. HasCome cell (2 * m) at old now) is way.come;
      link = n.place;
      strayed = subst (λ (z : ℕ × ℕ). HasStrayed cell (2 * z.0) z.1 now new) (λ i. (is i, sym n.node_is i)) h;
      another = strayed_another cell (2 * first) link now new back_still.0 back_still.1 ((come_unchanged cell (2 * first) at old now way.come).none way.unchanged) h;
    };
  }
