-- A find that goes by claims as far as it has come, and its end.
use Rattle.std.proofs.Common.{◌*◌, ◌++◌, ◌-◌, ◌/◌, ◌<◌, ◌∙◌, ◌∷◌, ◌≡◌, ◌≤◌, List, None, Option, Some, [], ap, arith}
use Rattle.std.proofs.Common.{drop, length, refl, subst, sym, take, ℕ}
use Rattle.std.proofs.Math.ListN.{drop_of_length-le}
use Rattle.big_atomic.proofs.Answered.{clear_step, ended_back, goes_of, of_then, ready_now}
use Rattle.big_atomic.proofs.Claimed.{looks_then, lost_longer}
use Rattle.big_atomic.proofs.Goings.{goes_then, looked_then}
use Rattle.big_atomic.proofs.Pacing.{paces_then, paces_within}
use Rattle.big_atomic.proofs.Paid.{claim_stores-append}
use Rattle.big_atomic.proofs.InlineReads.{HasReadOnce, read_once, read_goes, read_looked, read_stays}
use Rattle.big_atomic.specs.Calling.{Goes, HasClaim, HasClaimed, HasSeen, Paces}
use Rattle.big_atomic.specs.Ready.{IsReady}
use Rattle.big_atomic.specs.Turns.{claim_stores}
use Rattle.cache_hash.proofs.FirstNode.{missed_caused, missed_more, misses}
use Rattle.cache_hash.proofs.Found.{MayFind, find_hold, find_right, found_now, never_full, value_of_cell}
use Rattle.cache_hash.proofs.Walking.{Lost, OnlyLooks, Way, cleared_part, come_way, moved_lost, way_kept}
use Rattle.cache_hash.specs.Calls.{IsFound, find_reply, value_at as value_here}
use Rattle.cache_hash.specs.Finding.{Finding, HasMissed, KnowsValue}
use Rattle.cache_hash.specs.Firsts.{BeginsMissed}
use Rattle.chain_links.proofs.Passing.{back_claim, kept_back}
use Rattle.chain_links.specs.Walking.{HasBack, HasCome, IsWalked, MadeNoChange, NoneOf}
use Rattle.chain_links.specs.declared.answers.Walk.TheVariants.{Found, End, Moved}
use Rattle.hazard_claims.specs.Scanning.{ClearsWalk}
use Rattle.seat_history.specs.History.{state_at}
use Rattle.seat_history.specs.Key.{key_number}
use Rattle.seat_history.specs.declared.call.Call.TheVariants.{Find}
use Rattle.seat_history.specs.declared.entry.Entry.{Entry}
use Rattle.seat_history.specs.declared.key.KeyWords.{KeyWords}
use Rattle.step_rules.proofs.Line.Trails.{longer_seen}
use Rattle.step_rules.proofs.Order.BucketOf.{key_there}
use Rattle.step_rules.proofs.Order.RecordsAt.{records_since}
use Rattle.step_rules.proofs.Ties.Notes.{only_stepped_then}
use Rattle.step_rules.specs.Claims.{BACK, HOLD, OWN, On}
use Rattle.step_rules.specs.History.{key_cell}
use Rattle.step_rules.specs.Layout.{cells}
use Rattle.step_rules.specs.Records.{records_at, records_of, value_in}
use Rattle.step_rules.specs.SeatData.{IsOf, IsSeat, ObjectData, SeatData}
use Rattle.step_rules.specs.Sound.{Sound}
use Rattle.step_rules.specs.Steps.{stepped, unnoted}
use Rattle.step_rules.specs.Views.{claim_of, claimed_records, cleared_view, stood_view}
use Rattle.step_rules.specs.declared.plan.Plan.{Plan}
use Rattle.step_rules.specs.declared.view.Claim.{Claim}
use Rattle.step_rules.specs.declared.view.Counted.{Counted}
use Rattle.step_rules.specs.declared.view.View.{View}

-- A find as far as it has come, and its end.

abbrev pub finding_first : (cell word : ℕ) (before now : SeatData) → HasSeen BACK cell word 1 before now → Finding cell before now
finding_first cell word before now s = record {
  steps = s.steps;
  look = s.look;
  goes = s.goes;
  looked = s.looked;
  looks = s.looks;
  paced = s.paced;
  same = s.stays.same;
  retired = s.stays.retired;
  hold = s.stays.others HOLD (λ e. absurd (omega arith));
  own = s.stays.others OWN (λ e. absurd (omega arith));
}

abbrev pub finding_on : {from to : ℕ} (cell : ℕ) (b : List Counted) (before mid now : SeatData) (f : Finding cell before mid) → Paces 0 from f.steps → OnlyLooks from to cell b mid now → to ≤ 1
    → Finding cell before now
finding_on cell b before mid now f paced p serve = record {
  steps = f.steps ++ b;
  look = f.look;
  goes = λ found. goes_then (f.goes found) p.goes;
  looked = looked_then (f.goes None) f.looked p.goes;
  looks = looks_then f.steps b f.looks p.looks;
  paced = paces_within (paces_then paced p.paced) serve;
  same = only_stepped_then before mid now f.same p.same;
  retired = p.retired ∙ f.retired;
  hold = p.hold ∙ f.hold;
  own = p.own ∙ f.own;
}

pub seen_part : (cell word : ℕ) (mid now : SeatData) → (s : HasSeen BACK cell word 1 mid now) → OnlyLooks 0 1 cell s.steps mid now
seen_part cell word mid now s = record {
  goes = s.goes (Some (length mid.view.seen));
  looks = s.looks;
  paced = s.paced;
  same = s.stays.same;
  retired = s.stays.retired;
  hold = s.stays.others HOLD (λ e. absurd (omega arith));
  own = s.stays.others OWN (λ e. absurd (omega arith));
}

abbrev pub finding_again : (cell word : ℕ) (before mid now : SeatData) (f : Finding cell before mid) → Paces 0 0 f.steps → HasSeen BACK cell word 1 mid now → Finding cell before now
finding_again cell word before mid now f paced s = finding_on cell s.steps before mid now f paced (seen_part cell word mid now s) (omega arith)

pub has_back : (cell word : ℕ) (seat : SeatData) → HasClaim BACK cell word seat → HasBack cell seat.view
has_back cell word seat c = record { node = word / 2; stands = c.stands; cell_is = c.cell }

-- where a claim has just begun to stand, no change was made since
pub claim_unchanged : {cell word : ℕ} {seat : SeatData} → HasClaim BACK cell word seat → MadeNoChange cell seat.view
claim_unchanged {cell} {word} {seat} c = subst (λ (l : List Entry). NoneOf seat.view.plan cell seat.view.numbers l)
    (sym (ap (λ n. drop n seat.view.seen) c.now_at ∙ drop_of_length-le seat.view.seen (omega arith))) tt

-- Back's node is that of the word
same_node : (cell word node : ℕ) (seat : SeatData) → HasClaim BACK cell word seat → On (claim_of BACK seat.view) node → word / 2 ≡ 2 * node / 2
same_node cell word node seat c on = omega (arith, c.stands.at, on.at)

-- the claimed chain has the cell's records at the end of what is seen
pub way_records : (cell seen first : ℕ) (mid now : SeatData) → HasBack cell mid.view → Way cell seen first mid now → records_at now.view.plan now.view.seen cell ≡ claimed_records now.view
way_records cell seen first mid now b w =
    let v : View = now.view in
    let x : Claim = claim_of BACK v in
    let back : HasBack cell v = kept_back (way_kept w) b in
    records_since v.plan v.seen x.at cell w.calm
    ∙ (ap (λ k. records_at v.plan (take x.at v.seen) k) (sym back.cell_is) ∙ sym (back_claim cell v w.part.goes.sound back).records)

-- where the claimed chain has the cell's records, what it has for the key is the key's value at the end of what is seen
pub value_of_records : (cell : ℕ) (key : KeyWords) (v : View) (found : Option (List ℕ)) → Sound v → cell ≡ key_cell v.plan (key_number key)
    → records_at v.plan v.seen cell ≡ claimed_records v → value_in (claimed_records v) (key_number key) ≡ found → value_here v (length v.seen) key ≡ found
value_of_records cell key v found sound cell_is records value =
    value_of_cell cell key v found sound cell_is (ap (λ rs. value_in rs (key_number key)) records ∙ value)

-- a walk that came to its end: the claimed chain has this for the key, and so has the map at the end of what is seen
pub record OnWay (cell word : ℕ) (key : KeyWords) (found : Option (List ℕ)) (mid now : SeatData) : Type 0 where
  pub first : ℕ
  pub near : word / 2 ≡ first / 2
  pub way : Way cell first word mid now
  pub records : records_at now.view.plan now.view.seen cell ≡ claimed_records now.view
  pub chain : value_in (claimed_records now.view) (key_number key) ≡ found
  pub value : value_here now.view (length now.view.seen) key ≡ found

module _ (cell word : ℕ) (key : KeyWords) (mid now : SeatData) (claim : HasClaim BACK cell word mid) (cell_is : cell ≡ key_cell mid.view.plan (key_number key)) where
  b : HasBack cell mid.view
  b = has_back cell word mid claim

  on_way : (n node : ℕ) (found : Option (List ℕ)) → On (claim_of BACK mid.view) node → HasCome cell (2 * node) n mid now → value_in (claimed_records mid.view) (key_number key) ≡ found
      → OnWay cell word key found mid now
  on_way n node found on come value =
      let near = same_node cell word node mid claim on in
      let w = come_way cell (2 * node) word n mid now claim near b come in
      let records = way_records cell (2 * node) word mid now b w in
      let chain = ap (λ (y : Claim). value_in (records_of y.pages) (key_number key)) w.back ∙ value in record {
        first = 2 * node;
        near = near;
        way = w;
        records = records;
        chain = chain;
        value = value_of_records cell key now.view found w.part.goes.sound (cell_is ∙ ap (λ (p : Plan). key_cell p (key_number key)) (sym (way_kept w).plan)) records chain;
      }

  pub way_found : (at : ℕ) (val : List ℕ) → IsWalked cell key (Found at val) mid now → OnWay cell word key (Some val) mid now
  way_found at val k = on_way at k.node (Some val) k.back k.says.0 k.says.2

  pub way_end : (count : ℕ) → IsWalked cell key (End count) mid now → OnWay cell word key None mid now
  way_end count k = on_way (count - 1) k.node None k.back k.says.0 k.says.2

  pub way_counts : (count : ℕ) → IsWalked cell key (End count) mid now → length (claimed_records now.view) ≡ count
  way_counts count k = ap (λ (y : Claim). length (records_of y.pages)) (way_end count k).way.back ∙ k.says.1

  pub way_lost : IsWalked cell key Moved mid now → Lost cell mid now
  way_lost k = moved_lost cell (2 * k.node) word mid now claim (same_node cell word k.node mid claim k.back) b k.says

pub more_stored : (a b : List Counted) → 0 < claim_stores a → 0 < claim_stores (a ++ b)
more_stored a b some = omega (arith, claim_stores-append a b)

pub stored_more : (a b : List Counted) → 0 < claim_stores b → 0 < claim_stores (a ++ b)
stored_more a b some = omega (arith, claim_stores-append a b)

-- a find's walk answered: more was looked at, and the key's value is this
pub record Walked (cell : ℕ) (key : KeyWords) (found : Option (List ℕ)) (before now : SeatData) : Type 0 where
  pub finding : Finding cell before now
  pub stored : 0 < claim_stores finding.steps
  pub value : value_here now.view (length now.view.seen) key ≡ found

walked : {cell word : ℕ} {key : KeyWords} {found : Option (List ℕ)} {before mid now : SeatData} (f : Finding cell before mid) → 0 < claim_stores f.steps → OnWay cell word key found mid now
    → Walked cell key found before now
walked {cell} {before = before} {mid = mid} {now = now} f stored o = record {
  finding = finding_on cell o.way.steps before mid now f f.paced o.way.part (omega arith);
  stored = more_stored f.steps o.way.steps stored;
  value = o.value;
}

pub longer : (cell : ℕ) (mid now : SeatData) → Lost cell mid now → length mid.view.seen < length now.view.seen
longer cell mid now l = lost_longer cell (length mid.view.seen) now.view.plan now.view.seen l.changed

-- CLAIMS: a find that goes by them, since its seat was `before`
pub record Begun (shared : ObjectData) (key : KeyWords) (cell : ℕ) (before : SeatData) : Type 0 where
  pub ours : IsOf shared before
  pub some : 0 < shared.plan.buckets
  pub cell_is : cell ≡ key_cell shared.plan (key_number key)

-- it has claimed the cell's node
pub record Claimed (shared : ObjectData) (key : KeyWords) (cell : ℕ) (before now : SeatData) : Type 0 where
  pub begun : Begun shared key cell before
  pub finding : Finding cell before now
  pub stored : 0 < claim_stores finding.steps
  pub word : ℕ
  pub claim : HasClaim BACK cell word now

pub of_finding : {shared : ObjectData} {cell : ℕ} {before now : SeatData} → IsOf shared before → Finding cell before now → IsOf shared now
of_finding ours f = goes_of (f.goes None) ours

pub claimed_first : (shared : ObjectData) (key : KeyWords) (cell word : ℕ) (before now : SeatData)
    → Begun shared key cell before → HasClaimed BACK cell word before now → Claimed shared key cell before now
claimed_first shared key cell word before now b h = record {
  begun = b;
  finding = finding_first cell word before now h.0;
  stored = h.0.stored (omega arith);
  word = word;
  claim = h.1;
}

module _ {shared : ObjectData} {key : KeyWords} {cell : ℕ} {before mid : SeatData} (c : Claimed shared key cell before mid) where
  cell_now : cell ≡ key_cell mid.view.plan (key_number key)
  cell_now = c.begun.cell_is ∙ ap (λ (p : Plan). key_cell p (key_number key)) (sym (of_finding c.begun.ours c.finding).plan)

  pub inside : cell < cells shared.plan
  inside = subst (λ j. j < cells shared.plan) (sym c.begun.cell_is) (key_there shared.plan (key_number key) c.begun.some)

  pub back_there : HasBack cell mid.view
  back_there = has_back cell c.word mid c.claim

  pub finds_value : (at : ℕ) (val : List ℕ) (now : SeatData) → IsWalked cell key (Found at val) mid now → Walked cell key (Some val) before now
  finds_value at val now w = walked c.finding c.stored (way_found cell c.word key mid now c.claim cell_now at val w)

  pub finds_none : (count : ℕ) (now : SeatData) → IsWalked cell key (End count) mid now → Walked cell key None before now
  finds_none count now w = walked c.finding c.stored (way_end cell c.word key mid now c.claim cell_now count w)

  pub loses : (now : SeatData) → IsWalked cell key Moved mid now → Lost cell mid now
  loses now w = way_lost cell c.word key mid now c.claim cell_now w

  abbrev pub lost_finding : (now : SeatData) → Lost cell mid now → Finding cell before now
  lost_finding now l = finding_on cell l.steps before mid now c.finding c.finding.paced l.part (omega arith)

  pub claimed_again : (word : ℕ) (lost now : SeatData) → Lost cell mid lost → HasClaimed BACK cell word lost now → Claimed shared key cell before now
  claimed_again word lost now l h = record {
    begun = c.begun;
    finding = finding_again cell word before lost now (lost_finding lost l)
        (paces_then c.finding.paced l.part.paced) h.0;
    stored = more_stored (c.finding.steps ++ l.steps) h.0.steps (more_stored c.finding.steps l.steps c.stored);
    word = word;
    claim = h.1;
  }

  pub fewer : (word : ℕ) (lost now : SeatData) → Lost cell mid lost → HasClaimed BACK cell word lost now
      → now.view.plan.seats * now.view.plan.changes - length now.view.seen < mid.view.plan.seats * mid.view.plan.changes - length mid.view.seen
  fewer word lost now l h =
      let g : Goes cell None h.0.steps lost now = h.0.goes None in
      let further = longer_seen lost.view.seen now.view.seen g.seen in
      let more = longer cell mid lost l in
      let within = g.sound.within in
      let plan : now.view.plan ≡ mid.view.plan = ap (λ (z : View). z.plan) g.only ∙ ap (λ (z : View). z.plan) l.part.goes.only in
      let seats = ap (λ (p : Plan). p.seats * p.changes) plan in omega arith

-- the inline words were read before, and don't tell
module _ {shared : ObjectData} {key : KeyWords} {cell : ℕ} {before mid : SeatData} (h : HasMissed shared key cell before mid) where
  abbrev missed_read : HasReadOnce cell h.missed.answer before mid
  missed_read = read_once h.missed.answer h.missed.read h.missed.only h.law

  pub missed_begun : Begun shared key cell mid
  missed_begun =
      let same = h.missed.only.same in record {
        ours = of_then (ap (λ (z : SeatData). z.object) same) (ap (λ (z : SeatData). z.view.plan) same) h.ready.ours;
        some = h.some;
        cell_is = h.cell_is ∙ ap (λ (p : Plan). key_cell p (key_number key)) h.ready.ours.plan;
      }

  pub missed_inside : cell < cells shared.plan
  missed_inside = let b = missed_begun in subst (λ j. j < cells shared.plan) (sym b.cell_is) (key_there shared.plan (key_number key) b.some)

  abbrev missed_then : {now : SeatData} → Finding cell mid now → Finding cell before now
  missed_then {now} f =
      let r = missed_read.once in
      let l = read_looked r f.goes f.looked in
      let none = r.none_claimed in
      let none_tried = r.looks.none_exchanged in
      let stays = read_stays r BACK in record {
        steps = missed_read.steps ++ f.steps;
        look = l.0;
        goes = read_goes r f.goes;
        looked = l.1;
        looks = looks_then missed_read.steps f.steps r.looks f.looks;
        paced = paces_then {mid = 0} (record { rounds = omega arith; tries = omega arith }) f.paced;
        same = only_stepped_then before mid now stays.same f.same;
        retired = f.retired ∙ stays.retired;
        hold = f.hold ∙ stays.others HOLD (λ e. absurd (omega arith));
        own = f.own ∙ stays.others OWN (λ e. absurd (omega arith));
      }

  pub knows : {found : Option (List ℕ)} {now : SeatData} → Walked cell key found mid now → KnowsValue shared key found before now
  knows {found} {now} w =
      let missed : BeginsMissed cell key (missed_read.steps ++ w.finding.steps) = record {
        read = missed_read.steps;
        rest = w.finding.steps;
        none = missed_read.once.none_stored;
        shown = misses h.missed missed_read;
        whole = refl;
      } in
      let t = subst (λ j. (f : Finding j before now) × BeginsMissed j key f.steps × (0 < claim_stores f.steps)) h.cell_is
      (missed_then w.finding, missed, stored_more missed_read.steps w.finding.steps w.stored) in record {
        ready = h.ready;
        some = h.some;
        finding = t.0;
        missed = t.1;
        stored = t.2;
        value = w.value;
      }

-- a find that went by claims may be answered
pub record MayEndFind (key : KeyWords) (found : Option (List ℕ)) (before now : SeatData) : Type 0 where
  pub steps : List Counted
  pub may : MayFind key found steps before now
  pub missed : BeginsMissed (key_cell before.view.plan (key_number key)) key steps
  pub stored : 0 < claim_stores steps

pub may_end : {shared : ObjectData} {key : KeyWords} {found : Option (List ℕ)} {before now : SeatData} (cleared : SeatData) → KnowsValue shared key found before now → ClearsWalk now cleared
    → Sound cleared.view → MayEndFind key found before cleared
may_end {shared = shared} {key = key} {found = found} {before = before} {now = now} cleared k clears sound =
    let cell : ℕ = key_cell before.view.plan (key_number key) in
    let g : Goes cell None k.finding.steps before now = k.finding.goes None in
    let c = cleared_part cell now cleared (ap (λ (z : SeatData). z.fresh) k.finding.same) g.sound sound clears in
    let f : Finding cell before cleared = finding_on cell c.steps before now cleared k.finding k.finding.paced c.part (omega arith) in
    let ours : IsOf shared cleared = of_finding k.ready.ours f in
    let value : value_here cleared.view (length cleared.view.seen) key ≡ found = ap (λ (l : List Entry). (state_at l (length l)).values (key_number key)) c.seen ∙ k.value in record {
      steps = k.finding.steps ++ c.steps;
      may = record {
        look = f.look;
        ends = record {
          goes = f.goes None;
          looked = f.looked;
          paced = f.paced;
          first = k.ready.law;
          on = ap (λ (p : Plan). key_cell p (key_number key)) (ours.plan ∙ sym k.ready.ours.plan);
          late = f.looked.upto;
          right = find_right cleared ours k.some value;
          idle = k.ready.idle;
          idle_now = ap (λ (z : SeatData). z.holding) f.same ∙ k.ready.idle;
          full = λ need free e. absurd (never_full found need free e);
        };
        looks = f.looks;
        same = f.same;
        retired = f.retired;
        hold = f.hold;
        walk = c.none;
        own = ap (λ (x : Claim). x.word) f.own ∙ k.ready.own;
        value = value;
      };
      missed = missed_more k.missed c.steps;
      stored = more_stored k.finding.steps c.steps k.stored;
    }

module _ {key : KeyWords} {found : Option (List ℕ)} {before now : SeatData} (m : MayEndFind key found before now) where
  abbrev FindStood : SeatData → Type 0
  FindStood after = after ≡ stepped (stood_view (length now.view.seen) (Find key) (find_reply found) (cleared_view BACK now.view)) (unnoted BACK now)

  pub find_found : (after : SeatData) → FindStood after → IsSeat after → IsFound key found before after
  find_found after is last = found_now m.may after (ended_back now m.may.ends.goes.sound) is last (missed_caused (missed_more m.missed (clear_step now ∷ [])))
      (λ none. absurd (let some = more_stored m.steps (clear_step now ∷ []) m.stored in omega arith))

  pub find_ready : (shared : ObjectData) (after : SeatData) → IsReady shared before → FindStood after → IsSeat after → IsReady shared after
  find_ready shared after ready is law = ready_now shared after ready m.may.ends is law m.may.walk m.may.own (find_hold m.may after (ended_back now m.may.ends.goes.sound) is law)
