-- A copy along the claimed chain as it goes on.
use Rattle.std.proofs.Common.{◌≡◌, ◌≢◌, ◌∙◌, ℕ, ◌+◌, ◌*◌, ◌-◌, ◌^◌, ◌<◌, suc, true, false, eqb, eq-eqb, List, [], ◌∷◌, ◌++◌, length, length-append, take, drop, refl, sym}
use Rattle.std.proofs.Common.{ap, subst, arith}
use Rattle.std.specs.Prelude.{slice_index}
use Rattle.std.proofs.lemmas.Bool.{or_left, or_right}
use Rattle.std.proofs.lemmas.List.{length-take}
use mathlib.Core.Option.{some, some-ne-none}
use lib.ListN.{get_elem?}
use Rattle.chain_links.proofs.Another.{done_unchanged, strayed_another}
use Rattle.chain_links.proofs.Doing.{StaysBut, done_then, noted_stays, only_back, only_filled, only_freed, only_noted, only_passed, only_read, only_strayed}
use Rattle.chain_links.proofs.Doing.{only_taken, only_then, read_then}
use Rattle.chain_links.proofs.Passing.{back_claim, claim_at_low, passed_words}
use Rattle.chain_links.proofs.Ways.{first_node}
use Rattle.chain_links.specs.Following.{HasGivenUp, HasNext, HasNoted, HasTurnedBack, IsCopying}
use Rattle.chain_links.specs.Parts.{HasDone, OnlyCopied, Part, fills, notes, pages_read, passes, reads, takes}
use Rattle.chain_links.specs.Walking.{ChangedByAnother, HasBack, MadeNoChange}
use Rattle.node_pool.proofs.Taken.{has_added}
use Rattle.node_pool.specs.Pool.{IsFilled, IsRead, IsTaken}
use Rattle.seat_history.specs.declared.words.TheConstants.{WIDTH}
use Rattle.step_rules.proofs.Numbers.Bags.{has_times, once_from_times, one_list, times_has, times_once}
use Rattle.step_rules.proofs.Order.Fronting.{record_more}
use Rattle.step_rules.proofs.Ties.Owns.{words_at}
use Rattle.step_rules.proofs.Order.Pages.{full_at, full_chain, link_word, next_at, not_before}
use Rattle.step_rules.proofs.Numbers.Places.{take_to, there_at}
use Rattle.step_rules.proofs.Ties.Pools.{held_own, words_not_stored}
use Rattle.step_rules.proofs.Numbers.Sets.{at_has, has_at, has_left, length-nodes_of, nodes_of-append, once_apart}
use Rattle.step_rules.proofs.World.Sizes.{nodes_low}
use Rattle.step_rules.proofs.Ties.Tied.{own_there}
use Rattle.step_rules.specs.Bags.{times}
use Rattle.step_rules.specs.Claims.{BACK, IsClaim, OWN, On}
use Rattle.step_rules.specs.Fronts.{with_words}
use Rattle.step_rules.specs.Records.{record_in, records_of}
use Rattle.step_rules.specs.SeatData.{IsSeat, NoneAnnounced, SeatData}
use Rattle.step_rules.specs.Sound.{Sound}
use Rattle.step_rules.specs.Steps.{IsUnannounced}
use Rattle.step_rules.specs.Views.{claim_of, claimed_pages, claimed_records, silent, words_in}
use Rattle.step_rules.specs.World.{Linked, Once, has, nodes_of}
use Rattle.step_rules.specs.declared.layout.TheConstants.{NODE_WIDTH}
use Rattle.step_rules.specs.declared.view.Claim.{Claim}
use Rattle.step_rules.specs.declared.view.Held.{Held}
use Rattle.step_rules.specs.declared.view.View.{View}

abbrev pub page_of : ℕ → List ℕ → Held
page_of node words = record { node = node; words = words }

-- a list without its first
pub at_later : {A : Type 0} (l : List A) (i : ℕ) (h : A) → get_elem? l (suc i) ≡ some h → get_elem? (drop 1 l) i ≡ some h
at_later [] i h at = absurd (some-ne-none h (sym at))
at_later (x ∷ l) i h at = at

once_later : (l : List Held) → Once (nodes_of l) → Once (nodes_of (drop 1 l))
once_later [] once = once
once_later (x ∷ l) once = once.1

has_later : (l : List Held) (n : ℕ) → has (nodes_of (drop 1 l)) n ≡ true → has (nodes_of l) n ≡ true
has_later [] n h = h
has_later (x ∷ l) n h = or_right (eqb x.node n) (has (nodes_of l) n) h

-- each held node stands once among those held
pub once_held : {seat : SeatData} → IsSeat seat → Once seat.holding
once_held {seat} law = once_from_times seat.holding (λ n. omega (arith, law.lists n, times_once n (nodes_of seat.view.own) law.sound.own_once))

-- no node of these is announced, by the same claim on Own
still_unannounced : (nodes : List ℕ) (v w : View) → Sound v → claim_of OWN w ≡ claim_of OWN v → NoneAnnounced nodes v → NoneAnnounced nodes w
still_unannounced nodes v w sound same none n h y at =
    none n h y (claim_at_low OWN v sound (omega arith) ∙ ap (λ (z : Claim). some z) (sym same ∙ there_at w.claims OWN y (silent 0) at))

-- a link that comes next has a small number
pub next_low : (cell : ℕ) (words : List ℕ) (seat : SeatData) → Sound seat.view → HasBack cell seat.view → (n : HasNext words seat) → n.link < 2 ^ 32
next_low cell words seat sound b n =
    let claim = back_claim cell seat.view sound b in
    let f = at_has (claimed_pages seat.view) n.link (has_later (claimed_pages seat.view) n.link n.page) in
    omega (arith, (claim.node f.0 f.1 f.2).there, f.3, nodes_low seat.view.plan sound.plan)

pub unannounced_through : {old strayed : SeatData} → Sound old.view → NoneAnnounced old.holding old.view → OnlyCopied old strayed → strayed.holding ≡ old.holding
    → NoneAnnounced strayed.holding strayed.view
unannounced_through {old} {strayed} sound none only holding =
    subst (λ (l : List ℕ). NoneAnnounced l strayed.view) (sym holding) (still_unannounced old.holding old.view strayed.view sound (only.claims OWN (λ e. absurd (omega arith))) none)

-- the node that Back's word names
pub on_first : (number word first : ℕ) (v : View) → On (claim_of BACK v) first → number ≡ BACK → word ≡ (claim_of number v).word → word - 1 ≡ first
on_first number word first v on back is = first_node number word (claim_of BACK v).cell v (record { node = first; stands = on; cell_is = refl }) back is

-- the link is on the claimed chain still
pub link_still : (words : List ℕ) {old now : SeatData} → OnlyCopied old now → HasNext words old → has (nodes_of (drop 1 (claimed_pages now.view))) (slice_index words WIDTH - 1) ≡ true
link_still words only n =
    let link_is : n.link ≡ slice_index words WIDTH - 1 = omega (arith, n.named) in
    subst (λ (z : ℕ × List Held). has (nodes_of (drop 1 z.1)) z.0 ≡ true) (λ i. (link_is i, ap (λ (x : Claim). x.pages) (sym (only_back only)) i)) n.page

-- A COPY AT ITS START
module _ {cell first head : ℕ} {words : List ℕ} {before read now : SeatData} (law : IsSeat before) (b : HasBack cell before.view)
    (unchanged : MadeNoChange cell before.view) (some_there : 0 < length (claimed_records before.view))
    (idle : before.holding ≡ []) (none : before.noted ≡ []) (first_is : first ≡ b.node) (reading : IsRead first words before read) (sound : Sound read.view)
    (taking : IsTaken head read now) (last : IsSeat now) where
  on : On (claim_of BACK before.view) first
  on = subst (λ n. On (claim_of BACK before.view) n) (sym first_is) b.stands

  claim_first : IsClaim before.view.plan before.view.seen (claim_of BACK before.view) first
  claim_first = subst (λ n. IsClaim before.view.plan before.view.seen (claim_of BACK before.view) n) (sym first_is) (back_claim cell before.view law.sound b)

  image : words ≡ (claim_of BACK before.view).image
  image = reading.claimed BACK (claim_of BACK before.view) (claim_at_low BACK before.view law.sound (omega arith)) on

  pages : claimed_pages before.view ≡ page_of first words ∷ claim_first.rest
  pages = claim_first.heads ∙ (λ i. record { node = first; words = sym image i } ∷ claim_first.rest)

  pub copy_starts : IsCopying cell 0 head head words before now
  copy_starts = record {
    from = record { law = law; back = b; unchanged = unchanged; idle = idle };
    law = last;
    parts = reads (page_of first words) ∷ takes head ∷ [];
    done = (read, reading, sound, (now, taking, last.sound, refl));
    read = sym (ap (take 1) pages);
    node = first;
    place = ap (λ (l : List Held). get_elem? l 0) pages;
    noted = ap (λ (z : SeatData). z.noted) taking.same ∙ (ap (λ (z : SeatData). z.noted) reading.same ∙ none);
    filled = [];
    long = refl;
    holding = taking.holding ∙ ap (λ (l : List ℕ). l ++ head ∷ []) (ap (λ (z : SeatData). z.holding) reading.same ∙ idle);
    tail = [];
    heads = refl;
    linked = tt;
    records = refl;
    only = only_then (only_read reading) (only_taken taking);
  }

-- AS IT GOES ON
module _ {cell at head last : ℕ} {words : List ℕ} {before now : SeatData} (c : IsCopying cell at head last words before now) where
  abbrev chain : List Held
  chain = claimed_pages before.view

  abbrev records : List (List ℕ)
  records = claimed_records before.view

  claim : IsClaim before.view.plan before.view.seen (claim_of BACK before.view) c.from.back.node
  claim = back_claim cell before.view c.from.law.sound c.from.back

  pages_now : claimed_pages now.view ≡ chain
  pages_now = ap (λ (x : Claim). x.pages) (only_back c.only)

  first_on : On (claim_of BACK now.view) c.from.back.node
  first_on = subst (λ (x : Claim). On x c.from.back.node) (sym (only_back c.only)) c.from.back.stands

  full : 0 < length records → length records ≡ length chain
  full more = full_chain chain claim.counted more

  -- the record at the place
  pub record_here : 0 < length records → get_elem? records at ≡ some (record_in words)
  record_here more = (full_at chain at (page_of c.node words) (full more) c.place).1

  -- and the link after it
  pub record Follows : Type 0 where
    pub held : Held
    pub place : get_elem? chain (suc at) ≡ some held
    pub next : slice_index words WIDTH ≡ suc held.node

  pub follows : suc at < length records → Follows
  follows more =
      let f = full (omega arith) in
      let n = next_at chain at (page_of c.node words) claim.linked c.place (omega arith) in
      record { held = n.0; place = n.1; next = link_word words n.0.node n.2 }

  pub has_next : Follows → HasNext words now
  has_next f = record {
    link = f.held.node;
    named = f.next ∙ omega arith;
    page = subst (λ (l : List Held). has (nodes_of (drop 1 l)) f.held.node ≡ true) (sym pages_now) (has_at (drop 1 chain) at f.held (at_later chain at f.held f.place));
    unnoted = ap (λ (l : List ℕ). has l f.held.node) c.noted ∙ not_before (drop 1 chain) at f.held (once_later chain claim.once) (at_later chain at f.held f.place);
  }

  held_long : length now.holding ≡ at + 1
  held_long = omega (arith, ap (length {A = ℕ}) c.holding, length-append c.filled (last ∷ []), c.long)

  pub has_room : length now.noted < length now.holding
  has_room = omega (arith, held_long, ap (length {A = ℕ}) c.noted, length-nodes_of (take at (drop 1 chain)), length-take at (drop 1 chain))

  -- all own nodes were free
  were_free : (m : ℕ) → has now.holding m ≡ true → has before.free m ≡ true
  were_free m h = has_times m before.free (omega (arith, c.only.lists m, times_has m now.holding h, ap (times m) c.from.idle))

  pub none_announced : NoneAnnounced now.holding now.view
  none_announced n h = still_unannounced before.free before.view now.view c.from.law.sound (c.only.claims OWN (λ e. absurd (omega arith))) c.from.law.own_free n (were_free n h)

  free_left : at + 1 < length before.free → 0 < length now.free
  free_left more = omega (
    arith,
    held_long,
    c.from.law.long,
    c.law.long,
    ap (length {A = ℕ}) c.from.idle,
    ap (length {A = ℕ}) c.only.nodes,
    length-nodes_of now.view.own,
    length-nodes_of before.view.own,
  )

  -- the nodes that are filled keep their words while others are stored to
  pub last_apart : (m : ℕ) → has c.filled m ≡ true → m ≢ last
  last_apart m h same = once_apart c.filled (last ∷ []) m (subst Once c.holding (once_held c.law)) h (or_left (eqb last m) false (eq-eqb last m (sym same)))

  still_held : (m : ℕ) → has c.filled m ≡ true → has now.holding m ≡ true
  still_held m h = ap (λ (l : List ℕ). has l m) c.holding ∙ has_left c.filled (last ∷ []) m h

  pub last_held : has now.holding last ≡ true
  last_held = ap (λ (l : List ℕ). has l last) c.holding ∙ has_added c.filled last

  -- the node `last` is held and not announced, whatever parts were made
  pub unannounced_last : (then : SeatData) → OnlyCopied before then → IsUnannounced last then.view
  unannounced_last then only = still_unannounced before.free before.view then.view c.from.law.sound (only.claims OWN (λ e. absurd (omega arith))) c.from.law.own_free last (were_free last last_held)

  words_wide : length words ≡ NODE_WIDTH
  words_wide = (claim.node at (page_of c.node words) c.place).wide

  pub record_wide : length (record_in words) ≡ WIDTH
  record_wide = omega (arith, length-take WIDTH words, words_wide)

  -- one more link was passed and noted
  pub record PassedOn (found : List ℕ) (noted : SeatData) : Type 0 where
    pub follows : Follows
    pub noting : HasNoted cell (2 * c.from.back.node) (page_of (slice_index words WIDTH - 1) found) now noted
    pub law : IsSeat noted

  pub passed_on : {found : List ℕ} {noted : SeatData} → suc at < length records
      → ((first : ℕ) → On (claim_of BACK now.view) first → HasNoted cell (2 * first) (page_of (slice_index words WIDTH - 1) found) now noted) → IsSeat noted → PassedOn found noted
  passed_on more answer law = record { follows = follows more; noting = answer c.from.back.node first_on; law = law }

  module _ {found : List ℕ} {noted : SeatData} (p : PassedOn found noted) where
    pub stays : StaysBut (now.noted ++ (slice_index words WIDTH - 1) ∷ []) now noted
    stays = noted_stays c.law.sound p.noting

    abbrev pub page : Held
    page = page_of (slice_index words WIDTH - 1) found

    link_is : p.follows.held.node ≡ slice_index words WIDTH - 1
    link_is = omega (arith, p.follows.next)

    found_is : found ≡ p.follows.held.words
    found_is = passed_words cell (2 * c.from.back.node) page now p.noting.passed c.law.sound p.noting.passes
        ∙ (ap (λ (l : List Held). words_in l (slice_index words WIDTH - 1)) pages_now ∙ words_at (slice_index words WIDTH - 1) chain (suc at) p.follows.held claim.once p.follows.place link_is)

    pub noted_place : get_elem? chain (suc at) ≡ some page
    noted_place = p.follows.place ∙ ap (λ (h : Held). some h) (λ i. record { node = link_is i; words = sym found_is i })

    pub noted_only : OnlyCopied before noted
    noted_only = only_then c.only (only_then (only_passed c.law.sound p.noting.passes) (only_noted (slice_index words WIDTH - 1) p.noting.notes))

    pub noted_all : noted.noted ≡ nodes_of (take (suc at) (drop 1 chain))
    noted_all = stays.noted_is
        ∙ (ap (λ (l : List ℕ). l ++ page.node ∷ []) c.noted
        ∙ (sym (nodes_of-append (take at (drop 1 chain)) (page ∷ [])) ∙ ap nodes_of (sym (take_to (drop 1 chain) at page (at_later chain at page noted_place)))))

    pub some_free : at + 1 < length before.free → 0 < length noted.free
    some_free more = let some = free_left more in omega (arith, ap (length {A = ℕ}) stays.free)

    -- the node before it may be filled
    module _ {next : ℕ} {taken : SeatData} (t : IsTaken next noted taken) where
      pub taken_only : OnlyCopied before taken
      taken_only = only_then noted_only (only_taken t)

      pub last_still_held : has taken.holding last ≡ true
      last_still_held = ap (λ (l : List ℕ). has l last) (t.holding ∙ ap (λ (l : List ℕ). l ++ next ∷ []) stays.holding) ∙ has_left now.holding (next ∷ []) last last_held

    pub noted_held : has noted.holding last ≡ true
    noted_held = ap (λ (l : List ℕ). has l last) stays.holding ∙ last_held

    abbrev pub parts_noted : List Part
    parts_noted = passes page ∷ notes page.node ∷ []

    pub noted_done : HasDone cell (2 * c.from.back.node) parts_noted now noted
    noted_done = (p.noting.passed, p.noting.passes, p.noting.passes.sound, (noted, p.noting.notes, p.law.sound, refl))

    pub noted_read : (more : List Part) → pages_read more ≡ [] → pages_read (c.parts ++ (parts_noted ++ more)) ≡ take (suc (suc at)) chain
    noted_read more none = read_then c.parts (parts_noted ++ more)
        ∙ ((λ i. c.read i ++ page ∷ none i) ∙ sym (take_to chain (suc at) page noted_place))

    -- a node was taken for its record, and the node before it filled
    module _ {next : ℕ} {taken new : SeatData} (t : IsTaken next noted taken) (sound : Sound taken.view) (g : IsFilled last (record_in words ++ (next + 1) ∷ []) taken new)
        (last_law : IsSeat new) where
      next_apart : (m : ℕ) → has c.filled m ≡ true → m ≢ next
      next_apart m h same = one_list next (nodes_of now.view.own) now.free now.holding (c.law.lists next) c.law.sound.own_once
          (ap (λ (l : List ℕ). has l next) (sym stays.free) ∙ t.was_free) (ap (has now.holding) (sym same) ∙ still_held m h)

      words_kept : (m : ℕ) → has c.filled m ≡ true → words_in new.view.own m ≡ words_in now.view.own m
      words_kept m h = g.others m (last_apart m h)
          ∙ (ap (λ (z : SeatData). words_in z.view.own m) t.same ∙ (words_not_stored next 0 0 m noted.view.own (next_apart m h) ∙ ap (λ (l : List Held). words_in l m) stays.own))

      new_holding : new.holding ≡ (c.filled ++ last ∷ []) ++ next ∷ []
      new_holding = ap (λ (z : SeatData). z.holding) g.same ∙ (t.holding ∙ ap (λ (l : List ℕ). l ++ next ∷ []) (stays.holding ∙ c.holding))

      next_own : has (nodes_of new.view.own) next ≡ true
      next_own = held_own new last_law next (ap (λ (l : List ℕ). has l next) new_holding ∙ has_added (c.filled ++ last ∷ []) next)

      copies_more : Linked (with_words new.view.own (c.filled ++ last ∷ [])) (next + 1) × (records_of (with_words new.view.own (c.filled ++ last ∷ [])) ≡ take at records ++ record_in words ∷ [])
      copies_more = record_more now.view.own new.view.own c.filled last (next + 1) (record_in words) (take at records) words_kept g.words_there record_wide
          (omega (arith, own_there next new.view last_law.sound next_own, nodes_low new.view.plan last_law.sound.plan)) c.linked c.records

      pub copy_more : 0 < length records → IsCopying cell (at + 1) head next found before new
      copy_more some_there =
          let one : next + 1 ≡ suc next = omega arith in
          let count : suc at ≡ at + 1 = omega arith in
          subst (λ (m : ℕ). IsCopying cell m head next found before new) count (record {
            from = c.from;
            law = last_law;
            parts = c.parts ++ (parts_noted ++ takes next ∷ fills (page_of last (record_in words ++ (next + 1) ∷ [])) ∷ []);
            done = done_then cell (2 * c.from.back.node) c.parts (parts_noted ++ takes next ∷ fills (page_of last (record_in words ++ (next + 1) ∷ [])) ∷ []) before now new c.done
                (p.noting.passed, p.noting.passes, p.noting.passes.sound, (noted, p.noting.notes, p.law.sound, (taken, t, sound, (new, g, last_law.sound, refl))));
            read = noted_read (takes next ∷ fills (page_of last (record_in words ++ (next + 1) ∷ [])) ∷ []) refl;
            node = page.node;
            place = noted_place;
            noted = ap (λ (z : SeatData). z.noted) g.same ∙ (ap (λ (z : SeatData). z.noted) t.same ∙ noted_all);
            filled = c.filled ++ last ∷ [];
            long = omega (arith, length-append c.filled (last ∷ []), c.long);
            holding = new_holding;
            tail = c.tail ++ next ∷ [];
            heads = ap (λ (l : List ℕ). l ++ next ∷ []) c.heads;
            linked = subst (λ e. Linked (with_words new.view.own (c.filled ++ last ∷ [])) e) one copies_more.0;
            records = copies_more.1 ∙ sym (take_to records at (record_in words) (record_here some_there));
            only = only_then noted_only (only_then (only_taken t) (only_filled g));
          })

  -- the cell was found to name another node
  pub gives_up : {new : SeatData} → suc at < length records
      → ((first : ℕ) → On (claim_of BACK now.view) first → HasTurnedBack cell (2 * first) (slice_index words WIDTH - 1) now new) → HasGivenUp cell before new
  gives_up {new} more answer =
      let f = follows more in
      let t = answer c.from.back.node first_on in
      let link_is : slice_index words WIDTH - 1 ≡ f.held.node = omega (arith, f.next) in
      let only : OnlyCopied before new = only_then c.only (only_then (only_strayed t.strays) (only_freed t.frees)) in record {
        first = c.from.back.node;
        stands = c.from.back.stands;
        parts = c.parts;
        mid = now;
        done = c.done;
        passed = at;
        read = c.read;
        page = f.held;
        link = f.place;
        turned = subst (λ link. HasTurnedBack cell (2 * c.from.back.node) link now new) link_is t;
        another = subst (λ (z : SeatData). ChangedByAnother cell z.view) (sym t.frees.same) (strayed_another cell (2 * c.from.back.node) (slice_index words WIDTH - 1) now t.strayed
            (record {
              node = c.from.back.node;
              stands = subst (λ (x : Claim). On x c.from.back.node) (sym (only_back c.only)) c.from.back.stands;
              cell_is = ap (λ (x : Claim). x.cell) (only_back c.only) ∙ c.from.back.cell_is;
            })
            (omega arith) ((done_unchanged cell (2 * c.from.back.node) c.parts before now c.from.law.sound c.done).none c.from.unchanged) t.strays);
        holding = t.frees.holding;
        free = λ m. omega (arith, only.lists m, ap (times m) t.frees.holding, ap (times m) c.from.idle);
        only = only;
      }
