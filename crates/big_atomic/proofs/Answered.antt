-- How a call on a register that changes nothing is answered, and what it leaves.
use Rattle.std.proofs.Common.{◌≡◌, ◌≢◌, ◌∙◌, ℕ, ◌<◌, ◌≤◌, suc, zero, true, false, not, ◌&&◌, List, [], ◌∷◌, ◌++◌, Option, Some, None}
use Rattle.std.proofs.Common.{is_some, length, take, drop, set, append-nil, append_assoc, refl, sym, ap, subst, arith}
use Rattle.std.proofs.lemmas.Bool.{false≢true}
use Rattle.std.proofs.lemmas.List.{drop-append-le, get_or-set_other, get_or-set_same, length-set}
use mathlib.Core.Option.{some, some-injective}
use lib.ListN.{get_elem?}
use Rattle.big_atomic.proofs.Balance.{balance}
use Rattle.big_atomic.proofs.Goings.{goes_still, goes_then, held_stays, looked_before, looked_more, looked_then}
use Rattle.big_atomic.proofs.Pacing.{paces_still, paces_then}
use Rattle.big_atomic.proofs.Paid.{AreStill}
use Rattle.big_atomic.specs.Calling.{Goes, IsLooked, OnlySteps, Began, Paces}
use Rattle.big_atomic.specs.Calls.{Answered, HoldStays}
use Rattle.big_atomic.specs.Ready.{IsReady}
use Rattle.big_atomic.specs.Turns.{TurnsArePaid, changes_on, lost_steps, scan_loads}
use Rattle.seat_history.specs.Change.{is_change}
use Rattle.seat_history.specs.Contents.{Contents}
use Rattle.seat_history.specs.History.{state_at}
use Rattle.seat_history.specs.Key.{key_number}
use Rattle.seat_history.specs.Step.{held_after}
use Rattle.seat_history.specs.declared.call.Call.{Call}
use Rattle.seat_history.specs.declared.call.Call.TheVariants.{Load, Store, Swap, Hold, Look, Release, Find, Insert, Replace, Remove}
use Rattle.seat_history.specs.declared.entry.Entry.{Entry}
use Rattle.seat_history.specs.declared.reply.Reply.{Reply}
use Rattle.seat_history.specs.declared.reply.Reply.TheVariants.{Full}
use Rattle.step_rules.proofs.Line.Lawfuls.{above_end}
use Rattle.step_rules.proofs.Line.Records.{held_next}
use Rattle.step_rules.proofs.Line.Trails.{goes_on_same, trail_step}
use Rattle.step_rules.specs.Claims.{BACK, ClaimsSound, HOLD, IsClaim, OWN, On, Tells, WALK}
use Rattle.step_rules.specs.History.{GoesOn, cell_of, key_cell}
use Rattle.step_rules.specs.Kinds.Standing.{first_look}
use Rattle.step_rules.specs.Layout.{nodes}
use Rattle.step_rules.specs.Lawful.{IsLegal, IsReply, IsRight, held_by, is_full}
use Rattle.step_rules.specs.SeatData.{IsOf, IsSeat, ObjectData, SeatData}
use Rattle.step_rules.specs.Sound.{Sound}
use Rattle.step_rules.specs.Steps.{HasLooked, HasScanned, MayAnswer, stepped, unnoted}
use Rattle.step_rules.specs.Views.{claim_of, cleared_view, counted, number, reading, silent, stock, stood_view}
use Rattle.step_rules.specs.Writers.{WriterSound}
use Rattle.step_rules.specs.declared.layout.TheConstants.{NODE_WIDTH}
use Rattle.step_rules.specs.declared.plan.Plan.{Plan}
use Rattle.step_rules.specs.declared.view.Claim.{Claim}
use Rattle.step_rules.specs.declared.view.Counted.{Counted}
use Rattle.step_rules.specs.declared.view.Kind.TheVariants.{ClaimClear}
use Rattle.step_rules.specs.declared.view.Stand.{Stand}
use Rattle.big_atomic.proofs.Scanning.{holding_stays, own_words_later}
use Rattle.step_rules.specs.declared.view.View.{View}

-- a stand that is no change
pub right_at : (v : View) (q : ℕ) (call : Call) (reply : Reply) → q ≤ length v.seen
    → IsLegal v.plan (held_by v.seen (number v) v.stands) call → IsReply v.plan (stock v) (state_at v.seen q) (take q v.seen) (held_by v.seen (number v) v.stands) call reply
    → false ≡ (is_change (state_at v.seen q) call && not (is_full reply)) → IsRight v.plan v.seen v.stands (reading q call reply v)
right_at v q call reply within legal right still = record { place = within; legal = legal; reply = right; changes = still; entry = λ e. absurd (false≢true e) }

-- the seat has looked at the call's cell
pub looked_cell : (q : ℕ) (call : Call) (v : View) → (n : ℕ) × (first_look (cell_of v.plan call) (drop v.since v.trail) ≡ Some n) × (n ≤ q) → HasLooked q call v
looked_cell q (Load reg) v h = h
looked_cell q (Store reg new) v h = h
looked_cell q (Swap reg old new) v h = h
looked_cell q (Hold reg) v h = h
looked_cell q Look v h = tt
looked_cell q Release v h = tt
looked_cell q (Find key) v h = h
looked_cell q (Insert key val) v h = h
looked_cell q (Replace key old new) v h = h
looked_cell q (Remove key) v h = h

-- a scan of the call stands among the steps since the seat's last stand
pub scanned_since : (before v : View) (steps : List Counted) → Sound before → v.since ≡ before.since → v.trail ≡ before.trail ++ steps → HasScanned v steps → HasScanned v (drop v.since v.trail)
scanned_since before v steps sound since trail scan = record {
  front = drop before.since before.trail ++ scan.front;
  loads = scan.loads;
  back = scan.back;
  whole = (λ i. drop (since i) (trail i)) ∙ (drop-append-le before.since before.trail steps sound.trail.within
      ∙ (ap (λ (l : List Counted). drop before.since before.trail ++ l) scan.whole ∙ sym (append_assoc (drop before.since before.trail) scan.front (scan.loads ++ scan.back))));
  kinds = scan.kinds;
  own_words = scan.own_words;
}

-- a call on the register, in progress since its seat was `before`, may be answered so at the place q
pub record MayEnd (reg look q : ℕ) (call : Call) (reply : Reply) (steps : List Counted) (before now : SeatData) : Type 0 where
  pub goes : Goes reg None steps before now
  pub looked : IsLooked reg steps look before now
  pub paced : Paces 0 1 steps
  pub first : IsSeat before
  pub on : cell_of now.view.plan call ≡ reg
  pub late : look ≤ q
  pub right : IsRight now.view.plan now.view.seen now.view.stands (reading q call reply now.view)
  pub idle : before.holding ≡ []
  pub idle_now : now.holding ≡ []
  pub full : (need free : ℕ) → reply ≡ Full need free → (free ≡ length now.free) × HasScanned now.view (drop now.view.since now.view.trail)

pub may_answer : {reg look q : ℕ} {call : Call} {reply : Reply} {steps : List Counted} {before now : SeatData} → MayEnd reg look q call reply steps before now → MayAnswer q call reply now
may_answer {reg = reg} {look = look} {q = q} {call = call} {reply = reply} {steps = steps} {before = before} {now = now} m =
    let from = m.looked.from in
    let late = m.late in
    let stands : now.view.stands ≡ before.view.stands = ap (λ (z : View). z.stands) m.goes.only in
    record {
      stand = record {
        right = m.right;
        above = λ i s at. above_end before.view.plan before.view.numbers before.view.seen before.view.stands q call reply now.view m.first.sound.lawful (omega arith) i s
            (ap (λ (l : List Stand). get_elem? l i) (sym stands) ∙ at);
      };
      looked = looked_cell q call now.view (subst (λ (k : ℕ). (n : ℕ) × (first_look k (drop now.view.since now.view.trail) ≡ Some n) × (n ≤ q)) (sym m.on)
          (looked_before q m.first.sound m.goes m.looked m.late));
      full = λ need free e. let f = m.full need free e in (f.0, m.idle_now, f.1);
    }

-- the view after the call's claim on Back is ended, by these steps, or none was to end
pub record HasEnded (now : SeatData) (mid : View) (clear : List Counted) : Type 0 where
  pub view : mid ≡ record now.view { claims = mid.claims; trail = mid.trail }
  pub trail : mid.trail ≡ now.view.trail ++ clear
  pub still : AreStill clear
  pub few : length clear ≤ 1
  pub none_scanned : scan_loads clear ≡ 0
  pub others : (c : ℕ) → c ≢ BACK → claim_of c mid ≡ claim_of c now.view
  pub sound : Sound mid

pub ended_none : (now : SeatData) → Sound now.view → HasEnded now now.view []
ended_none now sound = record { view = refl; trail = sym (append-nil now.view.trail); still = refl; few = omega arith; none_scanned = refl; others = λ c ne. refl; sound = sound }

-- where one of a list's values is set, each is that one or was there
each_set : {A : Type 0} (l : List A) (c : ℕ) (x : A) (P : ℕ → A → Type 0) → ((d : ℕ) → P d x) → ((d : ℕ) (y : A) → get_elem? l d ≡ some y → P d y)
    → (d : ℕ) (y : A) → get_elem? (set l c x) d ≡ some y → P d y
each_set [] c x P here else d y e = absurd cc
each_set (z ∷ l) zero x P here else zero y e = subst (P zero) (some-injective x y e) (here zero)
each_set (z ∷ l) zero x P here else (suc d) y e = else (suc d) y e
each_set (z ∷ l) (suc c) x P here else zero y e = else zero y e
each_set (z ∷ l) (suc c) x P here else (suc d) y e = each_set l c x (λ n. P (suc n)) (λ n. here (suc n)) (λ n. else (suc n)) d y e

-- a claim word that is 0
cleared_claims : (p : Plan) (seen : List Entry) (claims : List Claim) (c : ℕ) → ClaimsSound p seen claims → ClaimsSound p seen (set claims c (silent 0))
cleared_claims p seen claims c k = record {
  four = length-set claims c (silent 0) ∙ k.four;
  named = each_set claims c (silent 0) (λ d y. y.stands ≡ true → (n : ℕ) × On y n) (λ d stands. absurd (false≢true stands)) k.named;
  there = λ d n. each_set claims c (silent 0) (λ _ y. On y n → (n < nodes p) × (length y.image ≡ NODE_WIDTH)) (λ _ on. absurd (false≢true on.on)) (λ e. λ y. k.there e n y) d;
  told = λ d n. each_set claims c (silent 0) (λ e y. Tells e → On y n → IsClaim p seen y n) (λ _ tells on. absurd (false≢true on.on)) (λ e. λ y. k.told e n y) d;
}

-- after the clear of Back a view is as sound as before
pub cleared_sound : (v : View) → Sound v → Sound (cleared_view BACK v)
cleared_sound v s = record {
  plan = s.plan;
  some_number = s.some_number;
  below = s.below;
  once = s.once;
  node = s.node;
  own_once = s.own_once;
  retired_once = s.retired_once;
  retired = s.retired;
  stock = s.stock;
  history = s.history;
  earlier = s.earlier;
  lawful = s.lawful;
  trail = trail_step v.seen (counted (ClaimClear BACK) 0 (length v.seen)) s.trail (goes_on_same v.seen) (omega arith);
  look = s.look;
  claims = cleared_claims v.plan v.seen v.claims BACK s.claims;
  scan = s.scan;
  writer = subst (λ (y : Claim). WriterSound v.plan v.seen y v.writer) (sym (get_or-set_other v.claims BACK OWN (silent 0) (silent 0) (λ e. absurd (omega arith)))) s.writer;
  reader = s.reader;
  within = s.within;
}

-- the one step that ends the Back claim
abbrev pub clear_step : SeatData → Counted
clear_step now = counted (ClaimClear BACK) 0 (length now.view.seen)

pub ended_back : (now : SeatData) → Sound now.view → HasEnded now (cleared_view BACK now.view) (clear_step now ∷ [])
ended_back now sound = record {
  view = refl;
  trail = refl;
  still = refl;
  few = omega arith;
  none_scanned = refl;
  others = λ c ne. get_or-set_other now.view.claims BACK c (silent 0) (silent 0) ne;
  sound = cleared_sound now.view sound;
}

pub back_cleared : (v : View) → Sound v → (claim_of BACK (cleared_view BACK v)).word ≡ 0
back_cleared v sound = ap (λ (x : Claim). x.word) (get_or-set_same v.claims BACK (silent 0) (silent 0) (omega (arith, sound.claims.four)))

-- the call may be answered so after its claim is ended too
looked_ended : (q : ℕ) (call : Call) (v : View) → v.since ≤ length v.trail → HasLooked q call v → HasLooked q call (cleared_view BACK v)
looked_ended q call v within h = by call h
  where
    more : (k : ℕ) → (n : ℕ) × (first_look k (drop v.since v.trail) ≡ Some n) × (n ≤ q) → (n : ℕ) × (first_look k (drop v.since (cleared_view BACK v).trail) ≡ Some n) × (n ≤ q)
    more k h = (h.0, looked_more k v.since h.0 v.trail (counted (ClaimClear BACK) 0 (length v.seen) ∷ []) within h.1, h.2)

    by : (call : Call) → HasLooked q call v → HasLooked q call (cleared_view BACK v)
    by (Load reg) h = more reg h
    by (Store reg new) h = more reg h
    by (Swap reg old new) h = more reg h
    by (Hold reg) h = more reg h
    by Look h = tt
    by Release h = tt
    by (Find key) h = more (key_cell v.plan (key_number key)) h
    by (Insert key val) h = more (key_cell v.plan (key_number key)) h
    by (Replace key old new) h = more (key_cell v.plan (key_number key)) h
    by (Remove key) h = more (key_cell v.plan (key_number key)) h

scanned_ended : (v : View) → v.since ≤ length v.trail → HasScanned v (drop v.since v.trail) → HasScanned (cleared_view BACK v) (drop v.since (cleared_view BACK v).trail)
scanned_ended v within h =
    let step : List Counted = counted (ClaimClear BACK) 0 (length v.seen) ∷ [] in
    let hold : claim_of HOLD (cleared_view BACK v) ≡ claim_of HOLD v = get_or-set_other v.claims BACK HOLD (silent 0) (silent 0) (λ q. absurd (omega arith)) in
    record {
      front = h.front;
      loads = h.loads;
      back = h.back ++ step;
      whole = drop-append-le v.since v.trail step within
          ∙ (ap (λ (l : List Counted). l ++ step) h.whole ∙ (append_assoc h.front (h.loads ++ h.back) step ∙ ap (λ (l : List Counted). h.front ++ l) (append_assoc h.loads h.back step)));
      kinds = h.kinds;
      own_words = own_words_later refl refl hold h.own_words;
    }

pub may_ended : (q : ℕ) (call : Call) (reply : Reply) (now : SeatData) → Sound now.view → MayAnswer q call reply now → MayAnswer q call reply (stepped (cleared_view BACK now.view) (unnoted BACK now))
may_ended q call reply now sound may = record {
  stand = record {
    right = record {
      place = may.stand.right.place;
      legal = may.stand.right.legal;
      reply = may.stand.right.reply;
      changes = may.stand.right.changes;
      entry = may.stand.right.entry;
    };
    above = may.stand.above;
  };
  looked = looked_ended q call now.view sound.trail.within may.looked;
  full = λ need free e. let f = may.full need free e in (f.0, f.1, scanned_ended now.view sound.trail.within f.2);
}

-- what was answered: with these steps, this stand, and the call's first look
pub record HasAnswered (reg look : ℕ) (call : Call) (reply : Reply) (steps : List Counted) (stand : Stand) (before after : SeatData) : Type 0 where
  pub answered : Answered reg call reply before after
  pub steps_are : answered.steps ≡ steps
  pub stand_is : answered.stand ≡ stand
  pub look_is : answered.stood.look ≡ look

-- the call goes on until its claim is ended
goes_ended : {reg look q : ℕ} {call : Call} {reply : Reply} {steps clear : List Counted} {before now : SeatData} {mid : View} → MayEnd reg look q call reply steps before now → HasEnded now mid clear
    → Goes reg (Some (length now.view.seen)) clear now (stepped mid now)
goes_ended {reg = reg} {clear = clear} {now = now} {mid = mid} m e = goes_still reg clear now (stepped mid now) (subst (λ (z : View). OnlySteps now.view z) (sym e.view) refl) e.trail
    (ap (λ (z : View). z.seen) e.view) e.still refl refl (ap stock e.view) e.sound

pub answered_now : {reg look q : ℕ} {call : Call} {reply : Reply} {steps clear : List Counted} {before now : SeatData} {mid : View} {links : List ℕ} (after : SeatData)
    → MayEnd reg look q call reply steps before now → HasEnded now mid clear → after ≡ record (stepped (stood_view q call reply mid) now) { noted = links } → IsSeat after
    → HasAnswered reg look call reply (steps ++ clear) (reading q call reply now.view) before after
answered_now {reg = reg} {look = look} {q = q} {call = call} {reply = reply} {steps = steps} {clear = clear} {before = before} {now = now} {mid = mid} after m e is last =
    let all : Goes reg None (steps ++ clear) before (stepped mid now) = goes_then m.goes (goes_ended m e) in
    let looks : IsLooked reg (steps ++ clear) look before (stepped mid now) = looked_then m.goes m.looked (goes_ended m e) in
    let view : after.view ≡ stood_view q call reply mid = ap (λ (z : SeatData). z.view) is in
    let seen : after.view.seen ≡ mid.seen = ap (λ (z : View). z.seen) view in
    let reads : reading q call reply mid ≡ reading q call reply now.view = ap (λ (z : View). reading q call reply z) e.view in
    let sound = last.sound in
    let within = sound.within in
    let paced : Paces 0 1 (steps ++ clear) = paces_then m.paced (paces_still 1 clear e.still) in
    let rounds = paced.rounds in
    let tries = paced.tries in
    let stands : after.view.stands ≡ before.view.stands ++ reading q call reply now.view ∷ [] =
    ap (λ (z : View). z.stands) view ∙ (λ i. ap (λ (z : View). z.stands) all.only i ++ reads i ∷ []) in
    let goes_on : GoesOn before.view.seen after.view.seen = subst (λ (l : List Entry). GoesOn before.view.seen l) (sym seen) all.seen in
    let plan : after.view.plan ≡ before.view.plan = ap (λ (z : View). z.plan) view ∙ ap (λ (z : View). z.plan) all.only in
    let numbers : after.view.numbers ≡ before.view.numbers = ap (λ (z : View). z.numbers) view ∙ ap (λ (z : View). z.numbers) all.only in
    record {
      answered = record {
        stand = reading q call reply now.view;
        steps = steps ++ clear;
        stood = record {
          stands = stands;
          by = ap (λ (z : View). number z) m.goes.only;
          call = refl;
          reply = refl;
          held = ap (λ (z : View). z.numbers) m.goes.only;
          stock = m.goes.stock;
          trail = ap (λ (z : View). z.trail) view ∙ all.trail;
          look = look;
          looked = ap (λ (k : ℕ). first_look k (steps ++ clear)) (ap (λ (p : Plan). cell_of p call) (sym (ap (λ (z : View). z.plan) m.goes.only)) ∙ m.on) ∙ looks.looked;
          from = m.looked.from;
          after = m.late;
          right = subst (λ (z : Plan × List Entry × List Stand). IsRight z.0 z.1 z.2 (reading q call reply now.view))
              (λ i. (sym (ap (λ (z : View). z.plan) view ∙ ap (λ (z : View). z.plan) e.view) i, sym (seen ∙ ap (λ (z : View). z.seen) e.view) i, ap (λ (z : View). z.stands) m.goes.only i)) m.right;
          lawful = sound.lawful;
          history = sound.history;
          seen = goes_on;
          within = omega arith;
          plan = plan;
          numbers = numbers;
          changes = omega (arith, ap (λ (z : View). z.changes) view, ap (λ (z : View). z.changes) all.only);
          removes = omega (arith, ap (λ (z : View). z.removes) view, ap (λ (z : View). z.removes) all.only);
        };
        nodes = record {
          object = ap (λ (z : SeatData). z.object) is ∙ m.goes.object;
          first = ap (λ (z : SeatData). z.first) is ∙ m.goes.first;
          even = balance (reading q call reply now.view) m.first last stands goes_on plan numbers m.idle (ap (λ (z : SeatData). z.holding) is ∙ m.idle_now);
        };
        paid = subst (λ (l : List Entry). TurnsArePaid before.view.plan reg (number before.view) l None (steps ++ clear)) (sym seen) all.paid;
        few = subst (λ (l : List Entry). lost_steps (steps ++ clear) ≤ changes_on before.view.plan reg (number before.view) (drop look l)) (sym seen) looks.few;
        rounds = omega arith;
        tries = omega arith;
        refreshed = λ e. absurd (false≢true e);
      };
      steps_are = refl;
      stand_is = refl;
      look_is = refl;
    }

-- the call stood, and its Back claim is ended
abbrev pub EndsAs : ℕ → Call → Reply → SeatData → SeatData → Type 0
EndsAs q call reply now after = after ≡ stepped (stood_view q call reply (cleared_view BACK now.view)) (unnoted BACK now)

-- what is held after a stand
pub held_then : (q : ℕ) (call : Call) (reply : Reply) (v w : View) → w ≡ stood_view q call reply v
    → held_by w.seen (number w) w.stands ≡ held_after (state_at v.seen q) (held_by v.seen (number v) v.stands) call
held_then q call reply v w e = ap (λ (z : View). held_by z.seen (number z) z.stands) e ∙ held_next v.seen (number v) v.stands (reading q call reply v) refl

-- the held record stays where the call neither holds nor releases one
pub hold_stays : {reg look q : ℕ} {call : Call} {reply : Reply} {steps clear : List Counted} {before now : SeatData} {mid : View} {links : List ℕ} (after : SeatData)
    → MayEnd reg look q call reply steps before now → HasEnded now mid clear → after ≡ record (stepped (stood_view q call reply mid) now) { noted = links }
    → claim_of HOLD now.view ≡ claim_of HOLD before.view
    → ((c : Contents) (held : Option (List ℕ)) → held_after c held call ≡ held) → HoldStays before after
hold_stays {reg = reg} {q = q} {call = call} {reply = reply} {steps = steps} {before = before} {now = now} {mid = mid} after m e is hold idle =
    let view : after.view ≡ stood_view q call reply mid = ap (λ (z : SeatData). z.view) is in record {
      claim = ap (λ (z : View). claim_of HOLD z) view ∙ (e.others HOLD (λ q. absurd (omega arith)) ∙ hold);
      held = held_then q call reply mid after.view view
          ∙ (idle (state_at mid.seen q) (held_by mid.seen (number mid) mid.stands)
          ∙ (ap (λ (z : View). held_by z.seen (number z) z.stands) e.view ∙ held_stays m.first.sound m.goes));
    }

-- a seat stays of its object
pub of_then : {shared : ObjectData} {now after : SeatData} → after.object ≡ now.object → after.view.plan ≡ now.view.plan → IsOf shared now → IsOf shared after
of_then object plan of = record { object = object ∙ of.object; plan = plan ∙ of.plan }

pub goes_of : {shared : ObjectData} {k : ℕ} {found : Option ℕ} {steps : List Counted} {before now : SeatData} → Goes k found steps before now → IsOf shared before → IsOf shared now
goes_of g of = of_then g.object (ap (λ (z : View). z.plan) g.only) of

-- the seat is ready after a call that leaves its held record
pub ready_after : (shared : ObjectData) (before after : SeatData) → IsReady shared before → IsOf shared after → IsSeat after → after.holding ≡ [] → (claim_of BACK after.view).word ≡ 0
    → (claim_of WALK after.view).word ≡ 0 → (claim_of OWN after.view).word ≡ 0 → HoldStays before after → IsReady shared after
ready_after shared before after r ours law idle back walk own h = record {
  ours = ours;
  law = law;
  idle = idle;
  back = back;
  walk = walk;
  own = own;
  hold = λ none. ap (λ (x : Claim). x.word) h.claim ∙ r.hold (sym (ap is_some h.held) ∙ none);
  held = λ one. let k = r.held (sym (ap is_some h.held) ∙ one) in (k.0, holding_stays k.0 before.view after.view h.held h.claim k.1);
}

-- and after a call that ended its Back claim and stood
pub ready_now : {reg look q : ℕ} {call : Call} {reply : Reply} {steps : List Counted} {before now : SeatData} (shared : ObjectData) (after : SeatData) → IsReady shared before
    → MayEnd reg look q call reply steps before now → EndsAs q call reply now after → IsSeat after
    → (claim_of WALK now.view).word ≡ 0 → (claim_of OWN now.view).word ≡ 0 → HoldStays before after → IsReady shared after
ready_now {q = q} {call = call} {reply = reply} {before = before} {now = now} shared after r m is law walk own h =
    let sound : Sound now.view = m.goes.sound in
    let ended = ended_back now sound in
    ready_after shared before after r
    (of_then (ap (λ (z : SeatData). z.object) is) (ap (λ (z : SeatData). z.view.plan) is) (goes_of m.goes r.ours))
    law
    (ap (λ (z : SeatData). z.holding) is ∙ m.idle_now)
    (ap (λ (z : SeatData). (claim_of BACK z.view).word) is ∙ back_cleared now.view sound)
    (ap (λ (z : SeatData). (claim_of WALK z.view).word) is ∙ (ap (λ (x : Claim). x.word) (ended.others WALK (λ q. absurd (omega arith))) ∙ walk))
    (ap (λ (z : SeatData). (claim_of OWN z.view).word) is ∙ (ap (λ (x : Claim). x.word) (ended.others OWN (λ q. absurd (omega arith))) ∙ own))
    h

-- what holds of any call that stood and ended its Back claim, where it leaves the held record
pub record HasEndedAs (shared : ObjectData) (reg look q : ℕ) (call : Call) (reply : Reply) (steps : List Counted) (before now final : SeatData) : Type 0 where
  pub has : HasAnswered reg look call reply (steps ++ clear_step now ∷ []) (reading q call reply now.view) before final
  pub hold : HoldStays before final
  pub ready : IsReady shared final

pub ended_as : {shared : ObjectData} {reg look q : ℕ} {call : Call} {reply : Reply} {steps : List Counted} {before now final : SeatData} → Began shared reg before
    → MayEnd reg look q call reply steps before now → EndsAs q call reply now final → IsSeat final → claim_of HOLD now.view ≡ claim_of HOLD before.view
    → (claim_of WALK now.view).word ≡ 0 → (claim_of OWN now.view).word ≡ 0 → ((c : Contents) (held : Option (List ℕ)) → held_after c held call ≡ held)
    → HasEndedAs shared reg look q call reply steps before now final
ended_as {shared} {now} {final} began m is law hold walk own keeps =
    let ended = ended_back now m.goes.sound in
    let stays = hold_stays final m ended is hold keeps in
    record { has = answered_now final m ended is law; hold = stays; ready = ready_now shared final began.ready m is law walk own stays }
