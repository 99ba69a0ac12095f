-- The steps of a copy of a chain's front as those of a call, and what they leave for its exchange.
use Rattle.std.proofs.Common.{◌≡◌, ◌≢◌, ◌∙◌, ℕ, ◌*◌, ◌/◌, ◌<◌, false, List, [], ◌∷◌, ◌++◌, Some, length, refl, sym, ap, subst, arith, append-nil}
use lib.ListN.{get_elem?}
use Rattle.big_atomic.proofs.Claimed.{loads_still, loads_unscanned, looks_then, lost_longer}
use Rattle.big_atomic.proofs.Goings.{goes_none, goes_still, goes_then}
use Rattle.big_atomic.proofs.Pacing.{paces_still, paces_then}
use Rattle.big_atomic.proofs.Paid.{AreStill, lost-append, scan_loads-append, still-append, still_exchanges, still_lost}
use Rattle.big_atomic.proofs.Preparing.{stores_still, stores_unscanned}
use Rattle.big_atomic.specs.Calling.{AreLooks, Goes, OnlySteps, Paces}
use Rattle.big_atomic.specs.Installing.{HasNear, MayInstall}
use Rattle.big_atomic.specs.Turns.{lost_steps, scan_loads}
use Rattle.cache_hash.proofs.Walking.{link_passed, strayed_lost}
use Rattle.chain_links.proofs.Doing.{only_back, only_filled, only_noted, only_passed, only_read, only_taken}
use Rattle.chain_links.specs.Copying.{HoldsCopy, front_steps, put_steps}
use Rattle.chain_links.specs.Following.{HasFront, HasGivenUp, IsRemoved, IsReplaced}
use Rattle.chain_links.specs.Parts.{Does, HasDone, OnlyCopied, Part, fills, notes, passes, reads, takes}
use Rattle.chain_links.specs.Walking.{HasBack}
use Rattle.chain_links.specs.declared.answers.Front.TheVariants.{Ready}
use Rattle.node_pool.specs.Pool.{load_steps}
use Rattle.seat_history.specs.Key.{key_number}
use Rattle.seat_history.specs.declared.call.Call.{Call}
use Rattle.seat_history.specs.declared.call.Call.TheVariants.{Insert, Remove, Replace}
use Rattle.seat_history.specs.declared.key.KeyWords.{KeyWords}
use Rattle.step_rules.proofs.Line.Trails.{longer_seen}
use Rattle.step_rules.proofs.Numbers.Sets.{length-nodes_of}
use Rattle.step_rules.proofs.Order.MayChange.{MayCall, drops_fallen, front_may, remove_edit, replace_edit}
use Rattle.step_rules.proofs.Ties.Notes.{drops_alone}
use Rattle.step_rules.specs.Bags.{times}
use Rattle.step_rules.specs.Claims.{BACK, On, WALK}
use Rattle.step_rules.specs.Fronts.{IsFront, front_of}
use Rattle.step_rules.specs.History.{IsThere, cell_of}
use Rattle.step_rules.specs.Records.{Edit, is_change_in, pair, place_in, put, records_of}
use Rattle.step_rules.specs.SeatData.{IsSeat, SeatData}
use Rattle.step_rules.specs.Sound.{Sound}
use Rattle.step_rules.specs.Steps.{DropsNoted, HoldsFront}
use Rattle.step_rules.specs.Views.{claim_of, claimed_edit, claimed_records, counted, stock}
use Rattle.step_rules.specs.World.{has, nodes_of}
use Rattle.step_rules.specs.declared.plan.Plan.{Plan}
use Rattle.step_rules.specs.declared.view.Claim.{Claim}
use Rattle.step_rules.specs.declared.view.Counted.{Counted}
use Rattle.step_rules.specs.declared.view.Held.{Held}
use Rattle.step_rules.specs.declared.view.Kind.TheVariants.{NodeStore}
use Rattle.step_rules.specs.declared.view.View.{View}

-- LOADS AND STORES, which look at no cell
pub record OnlyWords (steps : List Counted) (old now : SeatData) : Type 0 where
  pub still : AreStill steps
  pub unscanned : scan_loads steps ≡ 0
  pub view : now.view ≡ record old.view { own = now.view.own; trail = old.view.trail ++ steps }
  pub nodes : nodes_of now.view.own ≡ nodes_of old.view.own
  pub object : now.object ≡ old.object
  pub first : now.first ≡ old.first
  pub sound : Sound now.view

-- steps of a copy, through which a claim serves on: the word found last in the cell stays, or it is the same with its mark cleared
pub record CopiesOn (cell word : ℕ) (old now : SeatData) : Type 0 where
  pub steps : List Counted
  pub goes : Goes cell (Some (length old.view.seen)) steps old now
  pub looks : AreLooks steps
  pub paced : Paces 1 1 steps
  pub kept : lost_steps steps ≡ 0
  pub near : HasNear cell word now.view

only_words : {cell word : ℕ} {steps : List Counted} {old now : SeatData} → HasNear cell word old.view → OnlyWords steps old now → CopiesOn cell word old now
only_words {cell} {word} {steps} {old} {now} n w =
    let same_stock : stock now.view ≡ stock old.view = omega (
      arith,
      ap (λ (z : View). length z.retired) w.view,
      length-nodes_of now.view.own,
      length-nodes_of old.view.own,
      ap (length {A = ℕ}) w.nodes,
    ) in record {
      steps = steps;
      goes = goes_still cell steps old now (subst (λ (z : View). OnlySteps old.view z) (sym w.view) refl) (ap (λ (z : View). z.trail) w.view) (ap (λ (z : View). z.seen) w.view)
          w.still w.object w.first same_stock w.sound;
      looks = record { none_exchanged = still_exchanges steps w.still; none_scanned = w.unscanned };
      paced = paces_still 1 steps w.still;
      kept = still_lost steps w.still;
      near = subst (λ (z : View). HasNear cell word z) (sym w.view) (record { word = n.word; found = n.found; near = n.near; fell = n.fell });
    }

-- EACH PART of a copy
part_on : {cell word : ℕ} (seen : ℕ) (part : Part) {old now : SeatData} → word / 2 ≡ seen / 2 → Sound old.view → HasBack cell old.view → HasNear cell word old.view → Does cell seen part old now
    → Sound now.view → CopiesOn cell word old now
part_on seen (reads page) {old = old} same sound b n r last = only_words n (record {
  still = loads_still page.node 0 (length old.view.seen) page.words;
  unscanned = loads_unscanned page.node 0 (length old.view.seen) page.words;
  view = ap (λ (z : SeatData). z.view) r.same
      ∙ ap (λ (z : SeatData). record old.view { own = z.view.own; trail = old.view.trail ++ load_steps page.node 0 page.words (length old.view.seen) }) (sym r.same);
  nodes = ap (λ (z : SeatData). nodes_of z.view.own) r.same;
  object = ap (λ (z : SeatData). z.object) r.same;
  first = ap (λ (z : SeatData). z.first) r.same;
  sound = last;
})
part_on {cell} seen (passes page) {old = old} {now = now} same sound b n h last =
    let p = link_passed cell seen page old now sound b h in
    let low = p.fell n.word n.found in
    let fell = n.fell in
    record {
      steps = p.steps;
      goes = p.part.goes;
      looks = p.part.looks;
      paced = p.part.paced;
      kept = p.kept;
      near = record { word = p.word; found = p.found; near = p.near ∙ sym same; fell = omega arith };
    }
part_on {cell} {word} seen (notes link) {old = old} same sound b n is last = subst (λ (z : SeatData). CopiesOn cell word old z) (sym is) (only_words n (record {
  still = refl;
  unscanned = refl;
  view = ap (λ (t : List Counted). record old.view { trail = t }) (sym (append-nil old.view.trail));
  nodes = refl;
  object = refl;
  first = refl;
  sound = sound;
}))
part_on seen (takes node) {old = old} {now = now} same sound b n t last = only_words n (record {
  still = refl;
  unscanned = refl;
  view = ap (λ (z : SeatData). z.view) t.same
      ∙ ap (λ (z : SeatData). record old.view { own = z.view.own; trail = old.view.trail ++ counted (NodeStore node 0 0) 0 (length old.view.seen) ∷ [] }) (sym t.same);
  nodes = (only_taken t).nodes;
  object = ap (λ (z : SeatData). z.object) t.same;
  first = ap (λ (z : SeatData). z.first) t.same;
  sound = last;
})
part_on seen (fills held) {old = old} same sound b n f last = only_words n (record {
  still = stores_still held.node 0 (length old.view.seen) held.words;
  unscanned = stores_unscanned held.node 0 (length old.view.seen) held.words;
  view = ap (λ (z : SeatData). z.view) f.same;
  nodes = f.nodes;
  object = ap (λ (z : SeatData). z.object) f.same;
  first = ap (λ (z : SeatData). z.first) f.same;
  sound = last;
})

part_only : (cell seen : ℕ) (part : Part) {old now : SeatData} → Sound old.view → Does cell seen part old now → OnlyCopied old now
part_only cell seen (reads page) sound r = only_read r
part_only cell seen (passes page) sound h = only_passed sound h
part_only cell seen (notes link) sound is = only_noted link is
part_only cell seen (takes node) sound t = only_taken t
part_only cell seen (fills held) sound f = only_filled f

-- one after the other
parts_on : {cell word : ℕ} (seen : ℕ) (parts : List Part) {old now : SeatData} → word / 2 ≡ seen / 2 → Sound old.view → HasBack cell old.view → HasNear cell word old.view
    → HasDone cell seen parts old now → CopiesOn cell word old now
parts_on {cell} {word} seen [] {old = old} same sound b n is = subst (λ (z : SeatData). CopiesOn cell word old z) (sym is)
    (record {
      steps = [];
      goes = goes_none cell old sound;
      looks = record { none_exchanged = refl; none_scanned = refl };
      paced = paces_still 1 [] refl;
      kept = refl;
      near = n;
    })
parts_on {cell} seen (part ∷ parts) same sound b n d =
    let p = part_on seen part same sound b n d.1 d.2 in
    let back = only_back (part_only cell seen part sound d.1) in
    let still : HasBack cell d.0.view = record { node = b.node; stands = subst (λ (x : Claim). On x b.node) (sym back) b.stands; cell_is = ap (λ (x : Claim). x.cell) back ∙ b.cell_is } in
    let q = parts_on seen parts same d.2 still p.near d.3 in
    record {
      steps = p.steps ++ q.steps;
      goes = goes_then p.goes q.goes;
      looks = looks_then p.steps q.steps p.looks q.looks;
      paced = paces_then p.paced q.paced;
      kept = let kept = p.kept in let kept_then = q.kept in omega (arith, lost-append p.steps q.steps);
      near = q.near;
    }

-- THE FRONT IS COPIED
-- what a turn knows where its call would change the claimed records
pub record MayPrepare (cell word : ℕ) (call : Call) (mid : SeatData) : Type 0 where
  pub law : IsSeat mid
  pub near : HasNear cell word mid.view
  pub may : MayCall cell word call mid.view

-- the seat holds the front that the call makes, and the exchange of the cell may be tried
pub record HasPrepared (cell word node : ℕ) (call : Call) (steps : List Counted) (mid copied : SeatData) : Type 0 where
  pub goes : Goes cell (Some (length mid.view.seen)) steps mid copied
  pub looks : AreLooks steps
  pub paced : Paces 1 1 steps
  pub kept : lost_steps steps ≡ 0
  pub claims : (c : ℕ) → c ≢ WALK → claim_of c copied.view ≡ claim_of c mid.view
  pub retired : copied.view.retired ≡ mid.view.retired
  pub near : HasNear cell word copied.view
  pub may : MayInstall cell word node call copied.view
  pub front : HoldsFront node call copied
  pub noted : DropsNoted call copied
  pub law : IsSeat copied

-- what stays through a copy: the claims but that on Walk, the nodes retired, the plan, and what the seat may spend
record OnlyFronted (mid copied : SeatData) : Type 0 where
  pub claims : (c : ℕ) → c ≢ WALK → claim_of c copied.view ≡ claim_of c mid.view
  pub retired : copied.view.retired ≡ mid.view.retired
  pub plan : copied.view.plan ≡ mid.view.plan
  pub changes : copied.view.changes ≡ mid.view.changes
  pub removes : copied.view.removes ≡ mid.view.removes

module _ {cell word : ℕ} {call : Call} {mid copied : SeatData} (m : MayPrepare cell word call mid) (o : OnlyFronted mid copied) where
  back : claim_of BACK copied.view ≡ claim_of BACK mid.view
  back = o.claims BACK (λ e. absurd (omega arith))

  records : claimed_records copied.view ≡ claimed_records mid.view
  records = ap (λ (x : Claim). records_of x.pages) back

  may_still : MayCall cell word call copied.view
  may_still = record {
    stands = subst (λ (x : Claim). On x (word / 2)) (sym back) m.may.stands;
    cell = ap (λ (x : Claim). x.cell) back ∙ m.may.cell;
    on = ap (λ (p : Plan). cell_of p call) o.plan ∙ m.may.on;
    there = subst (λ (p : Plan). IsThere p call) (sym o.plan) m.may.there;
    changes = ap (λ (rs : List (List ℕ)). is_change_in rs call) records ∙ m.may.changes;
    wide = m.may.wide;
    left = let left = m.may.left in omega (arith, o.changes);
    removes = let removes = m.may.removes in omega (arith, o.removes);
  }

  -- its front is that of a change, which is the call's
  prepared : {node : ℕ} {change : Edit} → CopiesOn cell word mid copied → IsSeat copied → change ≡ claimed_edit call copied.view → IsFront node change copied.view
      → ((k : ℕ) → has copied.holding k ≡ has (nodes_of (front_of node change copied.view)) k) → DropsNoted call copied
      → (steps : List Counted) × HasPrepared cell word node call steps mid copied
  prepared {node} {change} c law is front held noted = (
    c.steps,
    record {
      goes = c.goes;
      looks = c.looks;
      paced = c.paced;
      kept = c.kept;
      claims = o.claims;
      retired = o.retired;
      near = c.near;
      may = front_may law.sound may_still (subst (λ (e : Edit). IsFront node e copied.view) is front);
      front = subst (λ (e : Edit). (k : ℕ) → has copied.holding k ≡ has (nodes_of (front_of node e copied.view)) k) is held;
      noted = noted;
      law = law;
    },
  )

-- the steps of a copy look at no cell and scan nothing
pub fronts_still : (hs : List Held) (seen : ℕ) → AreStill (front_steps hs seen)
fronts_still [] seen = refl
fronts_still (h ∷ r) seen = still-append (front_steps r seen) (put_steps h.node h.words seen) (fronts_still r seen) (stores_still h.node 0 seen h.words)

pub fronts_unscanned : (hs : List Held) (seen : ℕ) → scan_loads (front_steps hs seen) ≡ 0
fronts_unscanned [] seen = refl
fronts_unscanned (h ∷ r) seen = omega (
  arith,
  scan_loads-append (front_steps r seen) (put_steps h.node h.words seen),
  fronts_unscanned r seen,
  stores_unscanned h.node 0 seen h.words,
)

-- an insert reads the first node alone
module _ {cell word node : ℕ} {key : KeyWords} {val : List ℕ} {mid copied : SeatData} (m : MayPrepare cell word (Insert key val) mid) (none : mid.noted ≡ [])
    (h : HoldsCopy node (put (pair key val)) mid copied) (law : IsSeat copied) where
  abbrev seen : ℕ
  seen = length mid.view.seen

  abbrev front : List Held
  front = front_of node (put (pair key val)) copied.view

  abbrev image : List ℕ
  image = (claim_of BACK mid.view).image

  abbrev copy_steps : List Counted
  copy_steps = load_steps h.first 0 image seen ++ front_steps front seen

  copied_view : copied.view ≡ record mid.view { own = copied.view.own; trail = mid.view.trail ++ copy_steps }
  copied_view = ap (λ (z : SeatData). z.view) h.same

  only : OnlyFronted mid copied
  only = record {
    claims = λ c other. ap (λ (z : View). claim_of c z) copied_view;
    retired = ap (λ (z : View). z.retired) copied_view;
    plan = ap (λ (z : View). z.plan) copied_view;
    changes = ap (λ (z : View). z.changes) copied_view;
    removes = ap (λ (z : View). z.removes) copied_view;
  }

  pub insert_prepared : (steps : List Counted) × HasPrepared cell word node (Insert key val) steps mid copied
  insert_prepared = prepared m only
      (only_words m.near (record {
        still = still-append (load_steps h.first 0 image seen) (front_steps front seen) (loads_still h.first 0 seen image) (fronts_still front seen);
        unscanned = omega (
          arith,
          scan_loads-append (load_steps h.first 0 image seen) (front_steps front seen),
          loads_unscanned h.first 0 seen image,
          fronts_unscanned front seen,
        );
        view = copied_view;
        nodes = h.nodes;
        object = ap (λ (z : SeatData). z.object) h.same;
        first = ap (λ (z : SeatData). z.first) h.same;
        sound = law.sound;
      }))
      law refl h.front h.held (drops_alone (Insert key val) copied refl (ap (λ (z : SeatData). z.noted) h.same ∙ none))

-- what all parts leave
parts_only : {mid copied : SeatData} → OnlyCopied mid copied → OnlyFronted mid copied
parts_only o = record {
  claims = o.claims;
  retired = ap (λ (z : SeatData). z.view.retired) o.same;
  plan = ap (λ (z : SeatData). z.view.plan) o.same;
  changes = ap (λ (z : SeatData). z.view.changes) o.same;
  removes = ap (λ (z : SeatData). z.view.removes) o.same;
}

-- a copy from the claimed node
copies_on : {cell word first : ℕ} (parts : List Part) {mid now : SeatData} → Sound mid.view → HasNear cell word mid.view → On (claim_of BACK mid.view) (word / 2)
    → (claim_of BACK mid.view).cell ≡ cell → On (claim_of BACK mid.view) first → HasDone cell (2 * first) parts mid now → CopiesOn cell word mid now
copies_on {word = word} {first} parts sound near stands cell_is on done =
    parts_on (2 * first) parts (omega (arith, stands.at, on.at)) sound (record { node = word / 2; stands = stands; cell_is = cell_is }) near done

front_prepared : {cell word node : ℕ} {call : Call} {change : Edit} {mid copied : SeatData} → MayPrepare cell word call mid → HasFront cell node change mid copied → IsSeat copied
    → change ≡ claimed_edit call copied.view → (steps : List Counted) × HasPrepared cell word node call steps mid copied
front_prepared {call = call} {copied = copied} m h law is = prepared m (parts_only h.only) (copies_on h.parts m.law.sound m.near m.may.stands m.may.cell h.stands h.done) law is h.front h.held
    (drops_fallen call copied is h.noted)

-- a replace and a remove read the chain up to the record that they change
pub replace_prepared : {cell word node at : ℕ} {key : KeyWords} {old new : List ℕ} {mid copied : SeatData} → MayPrepare cell word (Replace key old new) mid
    → place_in (claimed_records mid.view) (key_number key) ≡ at → IsReplaced cell at new (Ready node) mid copied → IsSeat copied
    → (steps : List Counted) × HasPrepared cell word node (Replace key old new) steps mid copied
replace_prepared {at = at} {key} {old} {new} {mid} {copied} m place r law =
    let o = parts_only r.2.only in
    let same = records m o in
    front_prepared m r.2 law (replace_edit key old new r.0 at law.sound (may_still m o) (ap (λ (rs : List (List ℕ)). get_elem? rs at) same ∙ r.1)
    (ap (λ (rs : List (List ℕ)). place_in rs (key_number key)) same ∙ place))

pub remove_prepared : {cell word node at : ℕ} {key : KeyWords} {mid copied : SeatData} → MayPrepare cell word (Remove key) mid → place_in (claimed_records mid.view) (key_number key) ≡ at
    → IsRemoved cell at (Ready node) mid copied → IsSeat copied → (steps : List Counted) × HasPrepared cell word node (Remove key) steps mid copied
remove_prepared {at = at} {key} {copied = copied} m place h law = front_prepared m h law
    (remove_edit key at copied.view (ap (λ (rs : List (List ℕ)). place_in rs (key_number key)) (records m (parts_only h.only)) ∙ place))

-- THE COPY WAS GIVEN UP: the cell names another node, no claim serves any more, and every node that was taken is free again
pub record GaveUp (cell : ℕ) (steps : List Counted) (mid now : SeatData) : Type 0 where
  pub goes : Goes cell (Some (length mid.view.seen)) steps mid now
  pub looks : AreLooks steps
  pub paced : Paces 1 0 steps
  pub claims : (c : ℕ) → c ≢ WALK → claim_of c now.view ≡ claim_of c mid.view
  pub retired : now.view.retired ≡ mid.view.retired
  pub holding : now.holding ≡ []
  pub free : (n : ℕ) → times n now.free ≡ times n mid.free
  pub used : now.fresh ≡ false
  pub longer : length mid.view.seen < length now.view.seen

pub gave_up : {cell word : ℕ} {mid now : SeatData} → HasNear cell word mid.view → On (claim_of BACK mid.view) (word / 2) → (claim_of BACK mid.view).cell ≡ cell → IsSeat mid
    → HasGivenUp cell mid now → (steps : List Counted) × GaveUp cell steps mid now
gave_up {cell} {word} {mid} {now} near stands cell_is law h =
    let c = copies_on h.parts law.sound near stands cell_is h.stands h.done in
    let u : SeatData = h.turned.strayed in
    let l = strayed_lost cell (2 * h.first) c.near.word h.page.node h.mid u c.near.found (omega (arith, c.near.near, stands.at, h.stands.at)) h.turned.strays in
    let back : Goes cell (Some (length u.view.seen)) [] u now = subst (λ (z : SeatData). Goes cell (Some (length u.view.seen)) [] u z) (sym h.turned.frees.same)
    (goes_still cell [] u (record u { free = now.free; holding = now.holding }) refl (sym (append-nil u.view.trail)) refl refl refl refl refl l.part.goes.sound) in
    let further = lost_longer cell (length h.mid.view.seen) u.view.plan u.view.seen l.changed in
    let earlier = longer_seen mid.view.seen h.mid.view.seen c.goes.seen in (
      c.steps ++ (l.steps ++ []),
      record {
        goes = goes_then {a = c.steps} {b = l.steps ++ []} c.goes (goes_then {a = l.steps} l.part.goes back);
        looks = looks_then c.steps (l.steps ++ []) c.looks (looks_then l.steps [] l.part.looks (record { none_exchanged = refl; none_scanned = refl }));
        paced = paces_then {a = c.steps} {b = l.steps ++ []} c.paced (paces_then {a = l.steps} l.part.paced (paces_still 0 [] refl));
        claims = h.only.claims;
        retired = ap (λ (z : SeatData). z.view.retired) h.only.same;
        holding = h.holding;
        free = h.free;
        used = ap (λ (z : SeatData). z.fresh) h.turned.frees.same ∙ ap (λ (z : SeatData). z.fresh) l.part.same;
        longer = omega (arith, ap (λ (z : SeatData). length z.view.seen) h.turned.frees.same);
      },
    )
