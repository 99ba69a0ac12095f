-- The turns of a change, from one claim of its bucket's node to the next.
use Rattle.std.proofs.Common.{◌≡◌, ◌∙◌, ℕ, ◌+◌, ◌*◌, ◌-◌, ◌/◌, ◌^◌, ◌<◌, ◌≤◌, Bool, true, false, List, [], ◌∷◌, ◌++◌}
use Rattle.std.proofs.Common.{Option, None, Some, length, take, drop, refl, sym, ap, subst, arith, ◌⊎◌, inl, inr, ⊎_elim, is_some}
use Rattle.chain_links.proofs.Another.{none_of_on}
use Rattle.std.proofs.Math.Nat.{le-max_right}
use Rattle.std.proofs.lemmas.Bool.{false≢true}
use Rattle.std.proofs.lemmas.List.{take_all}
use Rattle.big_atomic.proofs.Pacing.{paces_then}
use Rattle.big_atomic.proofs.Marking.{turn_behind, turn_more}
use Rattle.big_atomic.proofs.Scanning.{scan_lost, scan_view}
use Rattle.big_atomic.specs.Calling.{Goes, HasStarted, Paces}
use Rattle.big_atomic.specs.Installing.{HasNear}
use Rattle.big_atomic.specs.Marks.{HasTurn}
use Rattle.big_atomic.specs.Ready.{IsReady}
use Rattle.cache_hash.proofs.Finding.{OnWay, has_back, longer, seen_part, value_of_records, way_counts, way_end, way_found, way_lost}
use Rattle.cache_hash.proofs.Keyed.{changes_by, keeps_same, on_key, there_for, tries_then}
use Rattle.cache_hash.proofs.Progress.{Onward, after_scan, going_on, looks_onward, wants_as}
use Rattle.cache_hash.specs.Asking.{AreInserts, AsksFor, Decides, call_for, would_change}
use Rattle.cache_hash.specs.Calls.{NeedsNodes, value_at}
use Rattle.cache_hash.specs.Changing.{Begun, CameBy, Changing, HasCome, HasDecided, HasLostTurn, HasTried, HasTurned}
use Rattle.cache_hash.specs.Changing.{IsAtTurn, IsDue, KnowsChain, KnowsEnd, MakesRoom, MayAsk, MayMake, Scans, TurnsBy}
use Rattle.cache_hash.specs.Changing.MakesRoom.{scans, stays}
use Rattle.big_atomic.specs.declared.starting.Start.{Start}
use Rattle.cache_hash.specs.declared.asked.Change.{Change}
use Rattle.cache_hash.specs.declared.asked.Decision.{Decision}
use Rattle.cache_hash.specs.declared.asked.Decision.TheVariants.{Changes, Stays}
use Rattle.cache_hash.specs.declared.asked.Due.{Due}
use Rattle.cache_hash.specs.declared.asked.Told.TheVariants.{Full, Plain}
use Rattle.cache_hash.specs.declared.turns.Turn.{Turn}
use Rattle.cache_hash.specs.declared.turns.Turn.TheVariants.{Ends, Moved as TurnMoved}
use Rattle.chain_links.proofs.Passing.{back_claim}
use Rattle.chain_links.specs.Walking.{HasBack, IsWalked, NoneOf, since_claim}
use Rattle.chain_links.specs.declared.answers.Walk.TheVariants.{Found, End, Moved}
use Rattle.seat_history.specs.Change.{is_change}
use Rattle.seat_history.specs.History.{state_at}
use Rattle.seat_history.specs.Key.{key_number}
use Rattle.seat_history.specs.declared.call.Call.{Call}
use Rattle.seat_history.specs.declared.entry.Entry.{Entry}
use Rattle.seat_history.specs.declared.key.KeyWords.{KeyWords}
use Rattle.step_rules.proofs.Line.Trails.{longer_seen}
use Rattle.step_rules.proofs.Order.LastInserts.{need_told}
use Rattle.step_rules.proofs.Numbers.Sets.{at_has, at_most_below, length-nodes_of}
use Rattle.step_rules.proofs.Order.RecordsTell.{place_within}
use Rattle.step_rules.proofs.World.Sizes.{nodes_low}
use Rattle.step_rules.specs.Claims.{BACK, HOLD, On, OWN}
use Rattle.step_rules.specs.History.{IsWide, cell_of, key_cell}
use Rattle.step_rules.specs.Layout.{nodes}
use Rattle.step_rules.specs.Order.{Needs}
use Rattle.step_rules.specs.Records.{edit_of, found_at, need as need_of, need_at, need_in, place_in, records_at, records_of, removes_of, value_in}
use Rattle.step_rules.specs.SeatData.{IsSeat, ObjectData, SeatData}
use Rattle.step_rules.specs.Views.{claim_of, claimed_pages, claimed_records}
use Rattle.step_rules.specs.World.{nodes_of}
use Rattle.step_rules.specs.declared.plan.Plan.{Plan}
use Rattle.step_rules.specs.declared.view.Claim.{Claim}
use Rattle.step_rules.specs.declared.view.Counted.{Counted}
use Rattle.step_rules.specs.declared.view.View.{View}

-- THE CALL BEGINS
abbrev pub begins : {shared : ObjectData} {before : SeatData} (key : KeyWords) → IsReady shared before → 0 < shared.plan.buckets → 0 < before.view.changes → Begun shared key
begins {before = before} key ready some left =
    record { before = before; came = []; ready = ready; some = subst (λ (p : Plan). 0 < p.buckets) (sym ready.ours.plan) some; left = left }

pub may_ask : {key : KeyWords} {change : Change} {before old : SeatData} → removes_of (call_for key change) ≤ old.view.removes → IsWide (call_for key change) → before ≡ old
    → MayAsk key change before
may_ask {key} {change} {before} {old} removes wide began =
    record { removes = subst (λ (z : SeatData). removes_of (call_for key change) ≤ z.view.removes) (sym began) removes; wide = wide }

-- it comes to a change more
module _ {shared : ObjectData} {key : KeyWords} (b : Begun shared key) (there : Option (List ℕ)) (change : Change) where
  abbrev pub come_to : Begun shared key
  come_to = record { before = b.before; came = (there, change) ∷ b.came; ready = b.ready; some = b.some; left = b.left }

  pub come_by : (among : Option (List ℕ) → Change → Type 0) → among there change → CameBy among b → CameBy among come_to
  come_by among this by other made come =
      ⊎_elim (λ is. subst (λ (z : Option (List ℕ) × Change). among z.0 z.1) (λ j. (sym is.0 j, sym is.1 j)) this) (λ before. by other made before) come

  pub inserts_before : AreInserts key (HasCome come_to.came) → AreInserts key (HasCome b.came)
  inserts_before all other made come = all other made (inr come)

  pub scans_too : (scanned : Bool) (steps : List Counted) (look : ℕ) (now : SeatData) → Scans scanned (AsksFor key (HasCome b.came)) steps look b.before now
      → Scans scanned (AsksFor key (HasCome come_to.came)) steps look b.before now
  scans_too false steps look now s = s
  scans_too true steps look now s = record {
    scan = s.scan;
    all = s.all;
    retired = s.retired;
    few = s.few;
    want = wants_as (λ call asks. (asks.0, asks.1, inr asks.2, asks.3)) s.want;
  }

  abbrev pub tried_too : {cell : ℕ} {scanned : Bool} {now : SeatData} → HasTried b cell scanned now → HasTried come_to cell scanned now
  tried_too {scanned = scanned} {now = now} t = record {
    going = record {
      cell_is = t.going.cell_is;
      steps = t.going.steps;
      look = t.going.look;
      goes = t.going.goes;
      looked = t.going.looked;
      paced = t.going.paced;
      idle = t.going.idle;
      used = t.going.used;
      hold = t.going.hold;
      own = t.going.own;
      scans = scans_too scanned t.going.steps t.going.look now t.going.scans;
      untouched = λ none none_tried. let kept = t.going.untouched none none_tried in record { nodes = kept.nodes; order = λ all. kept.order (inserts_before all) };
      never = λ never. t.going.never (λ other made come. never other made (inr come));
    };
    tried = λ yes. let tries = t.tried yes in record { tried = tries.tried; exchanged = λ all. tries.exchanged (inserts_before all) };
  }

-- THE FIRST CLAIM
pub cell_first : {shared : ObjectData} {key : KeyWords} (b : Begun shared key) (cell : ℕ) → cell ≡ key_cell shared.plan (key_number key) → key_cell b.before.view.plan (key_number key) ≡ cell
cell_first {key = key} b cell is = ap (λ (p : Plan). key_cell p (key_number key)) b.ready.ours.plan ∙ sym is

pub first_turn : {shared : ObjectData} {key : KeyWords} {cell : ℕ} {start : Start} {now : SeatData} (b : Begun shared key) → cell ≡ key_cell shared.plan (key_number key)
    → HasStarted cell start.version start.word b.before now → IsAtTurn b cell start false now
first_turn {key = key} {cell = cell} b is h = let s = h.0.0 in record {
  so_far = record {
    going = record {
      cell_is = cell_first b cell is;
      steps = s.steps;
      look = s.look;
      goes = s.goes None;
      looked = s.looked;
      paced = s.paced;
      idle = ap (λ (z : SeatData). z.holding) s.stays.same ∙ b.ready.idle;
      used = ap (λ (z : SeatData). z.fresh) s.stays.same;
      hold = s.stays.others HOLD (λ e. absurd (omega arith));
      own = ap (λ (x : Claim). x.word) (s.stays.others OWN (λ e. absurd (omega arith))) ∙ b.ready.own;
      scans = record { none = s.looks.none_scanned; retired = s.stays.retired };
      untouched = λ none none_tried. keeps_same (AreInserts key (HasCome b.came)) (ap (λ (z : SeatData). z.free) s.stays.same);
      never = λ never. s.looks.none_exchanged;
    };
    tried = λ yes. absurd (false≢true yes);
  };
  turn = h.1;
  claim = h.0.1;
}

-- A FURTHER ONE
-- what was tried stays so
abbrev tried_more : {shared : ObjectData} {key : KeyWords} {b : Begun shared key} {cell from to : ℕ} {scanned : Bool} {mid now : SeatData} {steps : List Counted}
    (t : HasTried b cell scanned mid) → Paces 0 from t.going.steps → Onward from to key (HasCome b.came) cell steps mid now → to ≤ 1 → HasTried b cell scanned now
tried_more {steps = steps} t paced o serve = record {
  going = going_on t.going paced o serve;
  tried = λ yes. tries_then t.going.steps steps (t.tried yes);
}

pub next_turn : {shared : ObjectData} {key : KeyWords} {b : Begun shared key} {cell : ℕ} {start : Start} {scanned : Bool} {old mid now : SeatData} → HasLostTurn b cell scanned old mid
    → HasStarted cell start.version start.word mid now → IsAtTurn b cell start scanned now
next_turn {key = key} {b = b} {cell = cell} {start = start} {mid = mid} {now = now} l h =
    record {
      so_far = tried_more l.so_far l.paced (looks_onward key (HasCome b.came) (seen_part cell start.word mid now h.0.0)) (omega arith);
      turn = turn_behind l.so_far.going.steps h.0.0.steps h.1;
      claim = h.0.1;
    }

pub turn_smaller : {shared : ObjectData} {key : KeyWords} {b after : Begun shared key} {cell : ℕ} {start next : Start} {scanned made : Bool} {last mid now : SeatData}
    → IsAtTurn b cell start scanned last → after.before ≡ b.before → HasLostTurn after cell made last mid → HasStarted cell next.version next.word mid now
    → now.view.plan.seats * now.view.plan.changes - length now.view.seen < last.view.plan.seats * last.view.plan.changes - length last.view.seen
turn_smaller {cell = cell} {last = last} {mid = mid} {now = now} at same l h =
    let g : Goes cell None h.0.0.steps mid now = h.0.0.goes None in
    let further = longer_seen mid.view.seen now.view.seen g.seen in
    let more = l.longer in
    let within = g.sound.within in
    let plan : now.view.plan ≡ last.view.plan =
    ap (λ (z : View). z.plan) g.only
    ∙ (ap (λ (z : View). z.plan) l.so_far.going.goes.only ∙ (ap (λ (z : SeatData). z.view.plan) same ∙ sym (ap (λ (z : View). z.plan) at.so_far.going.goes.only))) in
    let all = ap (λ (p : Plan). p.seats * p.changes) plan in omega arith

-- A TURN'S WALK
-- by the change that the turn came to this is decided
pub record DecidesBy {shared : ObjectData} {key : KeyWords} (among : Option (List ℕ) → Change → Type 0) (b : Begun shared key) (cell : ℕ) (start : Start)
    (change : Change) (decision : Decision) (scanned : Bool) (last : SeatData) : Type 0 where
  pub now : Begun shared key
  pub same : now.before ≡ b.before
  pub by : CameBy among now
  pub decided : HasDecided now cell start change decision scanned last

module _ {shared : ObjectData} {key : KeyWords} {b : Begun shared key} {cell : ℕ} {start : Start} {scanned : Bool} {mid : SeatData} (t : IsAtTurn b cell start scanned mid) where
  abbrev word : ℕ
  word = start.word

  abbrev i : Changing b cell scanned mid
  i = t.so_far.going

  pub turn_back : HasBack cell mid.view
  turn_back = has_back cell word mid t.claim

  plan : mid.view.plan ≡ b.before.view.plan
  plan = ap (λ (z : View). z.plan) i.goes.only

  cell_now : cell ≡ key_cell mid.view.plan (key_number key)
  cell_now = sym (ap (λ (p : Plan). key_cell p (key_number key)) plan ∙ i.cell_is)

  -- the walk's end, and what is decided there by the change that the turn comes to
  decided : (change : Change) → MayAsk key change b.before → (decision : Decision) {found : Option (List ℕ)} {now : SeatData} → OnWay cell word key found mid now → IsSeat now
      → Decides key change found (claimed_records now.view) decision → HasDecided (come_to b found change) cell start change decision scanned now
  decided change may decision {found} {now} o law decides = record {
    so_far = tried_too b found change (tried_more t.so_far i.paced (looks_onward key (HasCome b.came) o.way.part) (omega arith));
    turn = turn_more i.steps o.way.steps o.way.kept t.turn;
    may = may;
    found = found;
    asked = inl (refl, refl);
    chain = record {
      near = record { word = o.way.word; found = o.way.found; near = o.way.near ∙ sym o.near; fell = o.way.fell };
      stands = subst (λ (x : Claim). On x (word / 2)) (sym o.way.back) t.claim.stands;
      cell_is = ap (λ (x : Claim). x.cell) o.way.back ∙ t.claim.cell;
      records = o.records;
      value = o.chain;
      none = o.way.noted ∙ t.claim.none refl;
      unchanged = none_of_on now.view.plan cell now.view.numbers (since_claim now.view) o.way.calm;
      law = law;
    };
    decides = decides;
  }

  module _ {among : Option (List ℕ) → Change → Type 0} (by : CameBy among b) (change : Change) (may : MayAsk key change b.before) (decision : Decision) where
    pub turn_found : (at : ℕ) (there : List ℕ) (now : SeatData) → among (Some there) change → IsSeat now → IsWalked cell key (Found at there) mid now
        → ((rs : List (List ℕ)) → place_in rs (key_number key) ≡ at → Decides key change (Some there) rs decision) → DecidesBy among b cell start change decision scanned now
    turn_found at there now this law w decides =
        let o = way_found cell word key mid now t.claim cell_now at there w in record {
          now = come_to b (Some there) change;
          same = refl;
          by = come_by b (Some there) change among this by;
          decided = decided change may decision o law (decides (claimed_records now.view) (ap (λ (x : Claim). place_in (records_of x.pages) (key_number key)) o.way.back ∙ w.says.1));
        }

    pub turn_end : (count : ℕ) (now : SeatData) → among None change → IsSeat now → IsWalked cell key (End count) mid now
        → ((rs : List (List ℕ)) → length rs ≡ count → Decides key change None rs decision) → DecidesBy among b cell start change decision scanned now
    turn_end count now this law w decides = record {
      now = come_to b None change;
      same = refl;
      by = come_by b None change among this by;
      decided = decided change may decision (way_end cell word key mid now t.claim cell_now count w) law
          (decides (claimed_records now.view) (way_counts cell word key mid now t.claim cell_now count w));
    }

  pub found_seen : (at : ℕ) (there : List ℕ) (now : SeatData) → IsWalked cell key (Found at there) mid now → length mid.view.seen ≤ length now.view.seen
  found_seen at there now w = longer_seen mid.view.seen now.view.seen (way_found cell word key mid now t.claim cell_now at there w).way.part.goes.seen

  pub end_seen : (count : ℕ) (now : SeatData) → IsWalked cell key (End count) mid now → length mid.view.seen ≤ length now.view.seen
  end_seen count now w = longer_seen mid.view.seen now.view.seen (way_end cell word key mid now t.claim cell_now count w).way.part.goes.seen

  -- a record's place is low
  pub place_low : (at : ℕ) (there : List ℕ) (now : SeatData) → IsWalked cell key (Found at there) mid now → at + 1 < 2 ^ 32
  place_low at there now w =
      let claim = back_claim cell mid.view i.goes.sound turn_back in
      let within : place_in (claimed_records mid.view) (key_number key) < length (claimed_records mid.view) =
      place_within (claimed_records mid.view) (key_number key) (ap is_some w.says.2) in
      omega (
        arith,
        w.says.1,
        claim.counted,
        le-max_right 1 (length (claimed_records mid.view)),
        length-nodes_of (claimed_pages mid.view),
        at_most_below (nodes_of (claimed_pages mid.view)) (nodes mid.view.plan) claim.once
            (λ n h. let f = at_has (claimed_pages mid.view) n h in subst (λ m. m < nodes mid.view.plan) f.3 (claim.node f.0 f.1 f.2).there),
        nodes_low mid.view.plan i.goes.sound.plan,
      )

  pub turn_lost : {among : Option (List ℕ) → Change → Type 0} → CameBy among b → (now : SeatData) → IsWalked cell key Moved mid now → TurnsBy among b cell (TurnMoved scanned) mid now
  turn_lost by now w =
      let l = way_lost cell word key mid now t.claim cell_now w in record {
        now = b;
        same = refl;
        by = by;
        turned = record {
          so_far = tried_more t.so_far i.paced (looks_onward key (HasCome b.came) l.part) (omega arith);
          paced = paces_then i.paced l.part.paced;
          longer = longer cell mid now l;
        };
      }

-- so it ends as a turn that began earlier
pub ends_from : {shared : ObjectData} {key : KeyWords} (b : Begun shared key) (cell : ℕ) (turn : Turn) (first mid now : SeatData) → length first.view.seen ≤ length mid.view.seen
    → HasTurned b cell turn mid now → HasTurned b cell turn first now
ends_from b cell (Ends told) first mid now low t = t
ends_from b cell (TurnMoved made) first mid now low l = let more = l.longer in record { so_far = l.so_far; paced = l.paced; longer = omega arith }

-- as goes on what was decided
pub turns_by : {shared : ObjectData} {key : KeyWords} {among : Option (List ℕ) → Change → Type 0} {b : Begun shared key} {cell : ℕ} {start : Start} {change : Change} {decision : Decision}
    {scanned : Bool} {mid : SeatData} (turn : Turn) (first now : SeatData) → length first.view.seen ≤ length mid.view.seen → (d : DecidesBy among b cell start change decision scanned mid)
    → HasTurned d.now cell turn mid now → TurnsBy among b cell turn first now
turns_by {cell = cell} {mid = mid} turn first now low d turned = record { now = d.now; same = d.same; by = d.by; turned = ends_from d.now cell turn first mid now low turned }

-- WHAT IS KNOWN of the key's value at the end of what is seen
module _ {shared : ObjectData} {key : KeyWords} {b : Begun shared key} {cell word : ℕ} {scanned : Bool} {found : Option (List ℕ)} {now : SeatData}
    (i : Changing b cell scanned now) (chain : KnowsChain key cell word found now) where
  abbrev v : View
  v = now.view

  cell_is : cell ≡ key_cell v.plan (key_number key)
  cell_is = sym (ap (λ (z : View). key_cell z.plan (key_number key)) i.goes.only ∙ i.cell_is)

  pub value_known : value_at v (length v.seen) key ≡ found
  value_known = value_of_records cell key v found i.goes.sound cell_is chain.records chain.value

  -- and of what a change of it needs
  module _ (change : Change) where
    abbrev call : Call
    call = call_for key change

    whole : found_at v.plan v.seen (length v.seen) call ≡ claimed_records v
    whole = (λ j. records_at v.plan (take_all (length v.seen) v.seen (omega arith) j) ((on_key key change v.plan ∙ sym cell_is) j)) ∙ chain.records

    pub need_known : {needed : ℕ} → needed ≡ need_of (length (claimed_records v)) (edit_of (claimed_records v) call) → needed ≡ need_at v.plan v.seen (length v.seen) call
    need_known is = is ∙ ap (λ (rs : List (List ℕ)). need_of (length rs) (edit_of rs call)) (sym whole)

    pub needs_known : {needed : ℕ} → would_change change found ≡ true → needed ≡ need_of (length (claimed_records v)) (edit_of (claimed_records v) call) → NeedsNodes call (length v.seen) needed v
    needs_known {needed} changes is =
        let changes_now : is_change (state_at v.seen (length v.seen)) call ≡ true =
        changes_by key change (state_at v.seen (length v.seen)) ∙ (ap (would_change change) value_known ∙ changes) in
        let all : take (length v.seen) v.seen ≡ v.seen = take_all (length v.seen) v.seen (omega arith) in
        let some : 0 < v.plan.buckets = subst (λ (p : Plan). 0 < p.buckets) (sym (ap (λ (z : View). z.plan) i.goes.only)) b.some in record {
          changes = changes_now;
          needs = subst (λ (z : List (List ℕ) × ℕ). Needs z.0 call z.1)
              (λ j. (records_at v.plan (sym all j) (cell_of v.plan call), (ap (λ (l : List Entry). need_in v.plan l call) (sym all) ∙ sym (need_known is)) j))
              (need_told v.plan v.seen call i.goes.sound.history (there_for key change v.plan some) changes_now);
        }

-- NO CHANGE is to be made
pub stays_known : {shared : ObjectData} {key : KeyWords} {b : Begun shared key} {cell : ℕ} {start : Start} {change : Change} {decision : Decision} {scanned : Bool} {now : SeatData}
    (there : Option (List ℕ)) → decision ≡ Stays there → HasDecided b cell start change decision scanned now → KnowsEnd b cell change (Plain there) now
stays_known {key = key} {b = b} {change = change} {scanned = scanned} {now = now} there is d =
    let decides : Decides key change d.found (claimed_records now.view) (Stays there) = subst (Decides key change d.found (claimed_records now.view)) is d.decides in record {
      scanned = scanned;
      going = d.so_far.going;
      asked = subst (λ (found : Option (List ℕ)). HasCome b.came found change) (sym (value_known d.so_far.going d.chain)) d.asked;
      knows = (value_known d.so_far.going d.chain ∙ sym decides.0, ap (would_change change) decides.0 ∙ decides.1, d.so_far.tried);
    }

-- A CHANGE is due
pub is_due : {shared : ObjectData} {key : KeyWords} {b : Begun shared key} {cell : ℕ} {start : Start} {change : Change} {decision : Decision} {scanned : Bool} {now : SeatData} (due : Due)
    → decision ≡ Changes due → HasDecided b cell start change decision scanned now → IsDue b cell start change due scanned now
is_due {key = key} {b = b} {cell = cell} {start = start} {change = change} {now = now} due is d =
    let decides : Decides key change d.found (claimed_records now.view) (Changes due) = subst (Decides key change d.found (claimed_records now.view)) is d.decides in record {
      so_far = d.so_far;
      turn = d.turn;
      may = d.may;
      asked = subst (λ (found : Option (List ℕ)). HasCome b.came found change) (sym decides.0) d.asked;
      chain = subst (λ (found : Option (List ℕ)). KnowsChain key cell start.word found now) (sym decides.0) d.chain;
      decides = (refl, ap (would_change change) decides.0 ∙ decides.1, decides.2, decides.3);
    }

-- ROOM
-- for so many nodes, or after the call's scan
pub record HasRoom {shared : ObjectData} {key : KeyWords} (b : Begun shared key) (cell : ℕ) (start : Start) (change : Change) (due : Due) (made : Bool) (now : SeatData) : Type 0 where
  pub going : Changing b cell made now
  pub turn : HasTurn cell start.version start.word going.steps
  pub may : MayAsk key change b.before
  pub asked : HasCome b.came due.there change
  pub chain : KnowsChain key cell start.word due.there now
  pub decides : Decides key change due.there (claimed_records now.view) (Changes due)
  pub room : (made ≡ true) ⊎ (due.need ≤ length now.free)

pub room_made : {shared : ObjectData} {key : KeyWords} {b : Begun shared key} {cell : ℕ} {start : Start} {change : Change} {due : Due} {scanned made : Bool} {mid now : SeatData}
    → IsDue b cell start change due scanned mid → MakesRoom due.need scanned made mid now → IsSeat now → HasRoom b cell start change due made now
room_made {b = b} {cell = cell} {start = start} {change = change} {due = due} p (stays same as_before room) law =
    subst (λ (z : Bool × SeatData). HasRoom b cell start change due z.0 z.1) (λ j. (sym as_before j, sym same j))
    (record { going = p.so_far.going; turn = p.turn; may = p.may; asked = p.asked; chain = p.chain; decides = p.decides; room = room })
room_made {key = key} {b = b} {cell = cell} {start = start} {change = change} {due = due} {mid = mid} {now = now} p (scans is_made not_scanned few s) law =
    let c = p.chain in
    let view = scan_view s c.law law in
    let back : claim_of BACK now.view ≡ claim_of BACK mid.view = s.claims BACK (λ e. absurd (omega arith)) in
    let records : claimed_records now.view ≡ claimed_records mid.view = ap (λ (x : Claim). records_of x.pages) back in
    let so_far : (going : Changing b cell false mid) × HasTurn cell start.version start.word going.steps =
    subst (λ t. (going : Changing b cell t mid) × HasTurn cell start.version start.word going.steps) not_scanned (p.so_far.going, p.turn) in
    let going : Changing b cell false mid = so_far.0 in
    subst (λ t. HasRoom b cell start change due t now) (sym is_made) (record {
      going = after_scan going s c.law law (due.there, change, p.asked, refl) c.stands.on (needs_known going c change p.decides.1 p.decides.2) few;
      turn = turn_more going.steps (s.clear ++ s.loads) (scan_lost s c.law law) so_far.1;
      may = p.may;
      asked = p.asked;
      chain = record {
        near = subst (λ (z : View). HasNear cell start.word z) (sym view) (record { word = c.near.word; found = c.near.found; near = c.near.near; fell = c.near.fell });
        stands = subst (λ (x : Claim). On x (start.word / 2)) (sym back) c.stands;
        cell_is = ap (λ (x : Claim). x.cell) back ∙ c.cell_is;
        records = ap (λ (z : View). records_at z.plan z.seen cell) view ∙ (c.records ∙ sym records);
        value = ap (λ (rs : List (List ℕ)). value_in rs (key_number key)) records ∙ c.value;
        none = ap (λ (z : SeatData). z.noted) s.same ∙ c.none;
        unchanged = subst (λ (z : Plan × List ℕ × Claim × List Entry). NoneOf z.0 cell z.1 (drop z.2.at z.3))
            (λ i. ((sym view i).plan, (sym view i).numbers, sym back i, (sym view i).seen)) c.unchanged;
        law = law;
      };
      decides = subst (λ (rs : List (List ℕ)). Decides key change due.there rs (Changes due)) (sym records) p.decides;
      room = inl refl;
    })

pub room_seen : {needed : ℕ} {scanned made : Bool} {mid now : SeatData} → MakesRoom needed scanned made mid now → length mid.view.seen ≤ length now.view.seen
room_seen (stays same as_before room) = omega (arith, ap (λ (z : SeatData). length z.view.seen) same)
room_seen (scans is_made not_scanned few s) = omega (arith, ap (λ (z : SeatData). length z.view.seen) s.same)

module _ {shared : ObjectData} {key : KeyWords} {b : Begun shared key} {cell : ℕ} {start : Start} {change : Change} {due : Due} {made : Bool} {now : SeatData}
    (r : HasRoom b cell start change due made now) where
  pub too_few : (free : ℕ) → free ≡ length now.free → free < due.need → KnowsEnd b cell change (Full due.need free) now
  too_few free is few = record {
    scanned = made;
    going = r.going;
    asked = subst (λ (found : Option (List ℕ)). HasCome b.came found change) (sym (value_known r.going r.chain)) r.asked;
    knows = (
      needs_known r.going r.chain change r.decides.1 r.decides.2,
      need_known r.going r.chain change r.decides.2,
      ⊎_elim (λ yes. yes) (λ room. absurd (omega arith)) r.room,
      is,
      few,
    );
  }

  pub enough_there : due.need ≤ length now.free → MayMake b cell start change due made now
  enough_there enough = record { going = r.going; turn = r.turn; may = r.may; asked = r.asked; chain = r.chain; decides = r.decides; free = enough }
