-- How loads, holds, looks at the held record, and releases come to their answers.
use Rattle.std.proofs.Common.{◌≡◌, ◌≢◌, ◌∙◌, ℕ, ◌+◌, ◌*◌, ◌/◌, ◌^◌, ◌<◌, ◌≤◌, false, true, List, [], ◌∷◌, ◌++◌, Option, Some, None}
use Rattle.std.proofs.Common.{is_some, unwrap_or, length, take, set, get_or, length-append, refl, sym, ap, subst, arith, inr}
use Rattle.std.proofs.lemmas.Bool.{false≢true}
use Rattle.std.proofs.lemmas.List.{get_or-set_other, get_or-set_same}
use Rattle.std.proofs.Math.Seq.{take-append_seam}
use mathlib.Core.Option.{some}
use lib.ListN.{get_elem?}
use Rattle.big_atomic.proofs.Answered.{HasEnded, MayEnd, answered_now, clear_step, ended_back, ended_none, goes_of, held_then, hold_stays, of_then, ready_after, ready_now, right_at}
use Rattle.big_atomic.proofs.Balance.{nodes_stay}
use Rattle.big_atomic.proofs.Claimed.{read_goes}
use Rattle.big_atomic.proofs.Goings.{goes_still, held_stays}
use Rattle.big_atomic.proofs.Paid.{claim_stores-append, exchanges-append, lost-append, scan_loads-append, still_exchanges}
use Rattle.big_atomic.proofs.Taking.{takes_these}
use Rattle.big_atomic.specs.Calling.{Goes, HasClaim, HasClaimedRecord, HasRead, HasSeen, OnlySteps, TakesFew}
use Rattle.big_atomic.specs.Calls.{HoldStays, IsHeld, IsLoaded, IsLooked, IsQuiet, IsReleased, NodesStay, register_at}
use Rattle.big_atomic.specs.Reads.{ClaimsAreCaused, ReadFailed}
use Rattle.big_atomic.specs.Ready.{IsReady}
use Rattle.big_atomic.specs.Turns.{claim_stores, lost_steps}
use Rattle.node_pool.specs.Pool.{load_steps}
use Rattle.seat_history.specs.declared.call.Call.{Call}
use Rattle.seat_history.specs.declared.call.Call.TheVariants.{Load, Hold, Look, Release}
use Rattle.seat_history.specs.declared.reply.Reply.{Reply}
use Rattle.seat_history.specs.declared.reply.Reply.TheVariants.{Words, Done, Full}
use Rattle.seat_history.specs.declared.words.TheConstants.{WIDTH}
use Rattle.step_rules.proofs.Line.Lawfuls.{above_end}
use Rattle.step_rules.proofs.Numbers.Places.{at_there}
use Rattle.step_rules.proofs.World.Registers.{claim_record}
use Rattle.step_rules.proofs.Line.Trails.{longer_seen}
use Rattle.step_rules.proofs.World.Sizes.{nodes_low}
use Rattle.step_rules.specs.Claims.{BACK, HOLD, OWN, On, WALK}
use Rattle.step_rules.specs.History.{GoesOn, cell_of}
use Rattle.step_rules.specs.Layout.{nodes}
use Rattle.step_rules.specs.Lawful.{IsRight, held_by}
use Rattle.step_rules.specs.SeatData.{IsHolding, IsSeat, ObjectData, SeatData, holds_record}
use Rattle.step_rules.specs.Sound.{Sound}
use Rattle.step_rules.specs.Steps.{HasLooked, MayAnswer, stepped, unnoted}
use Rattle.step_rules.specs.Stood.{StoodStill}
use Rattle.step_rules.specs.Views.{claim_of, cleared_view, counted, number, reading, silent, stock, stood_view}
use Rattle.step_rules.specs.declared.layout.TheConstants.{NODE_WIDTH}
use Rattle.step_rules.specs.declared.plan.Plan.{Plan}
use Rattle.step_rules.specs.declared.view.Claim.{Claim}
use Rattle.step_rules.specs.declared.view.Counted.{Counted}
use Rattle.step_rules.specs.declared.view.Kind.TheVariants.{ClaimClear}
use Rattle.step_rules.specs.declared.view.Stand.{Stand}
use Rattle.step_rules.specs.declared.view.View.{View}

none_there : {o : Option (List ℕ)} → is_some o ≡ false → o ≡ None
none_there {o = None} e = refl
none_there {o = Some words} e = absurd (false≢true (sym e))

-- a call on a register claimed its node on c, and read the record
pub record HasReadRegister (c reg word : ℕ) (rec : List ℕ) (before now : SeatData) : Type 0 where
  pub first : IsSeat before
  pub idle : before.holding ≡ []
  pub there : reg < before.view.plan.registers
  pub claimed : HasClaimedRecord c reg word rec before now

abbrev pub has_read : {shared : ObjectData} {c reg word : ℕ} {rec : List ℕ} {before now : SeatData} → IsReady shared before → reg < shared.plan.registers
    → HasClaimedRecord c reg word rec before now → HasReadRegister c reg word rec before now
has_read {reg = reg} ready there claimed = record {
  first = ready.law;
  idle = ready.idle;
  there = subst (λ (p : Plan). reg < p.registers) (sym ready.ours.plan) there;
  claimed = claimed;
}

module _ {c reg word : ℕ} {rec : List ℕ} {before now : SeatData} (r : HasReadRegister c reg word rec before now) where
  abbrev seen : HasSeen c reg word 1 before now
  seen = r.claimed.0.0

  abbrev claim : HasClaim c reg word now
  claim = r.claimed.0.1

  goes : Goes reg None seen.steps before now
  goes = seen.goes None

  idle_now : now.holding ≡ []
  idle_now = ap (λ (z : SeatData). z.holding) seen.stays.same ∙ r.idle

  there_now : reg < now.view.plan.registers
  there_now = subst (λ (p : Plan). reg < p.registers) (sym (ap (λ (z : View). z.plan) goes.only)) r.there

  abbrev end : ℕ
  end = length now.view.seen

  -- a call on the register may be answered now, by a reply that isn't Full and that is right
  ends : (call : Call) (reply : Reply) → ((p : Plan) → cell_of p call ≡ reg) → IsRight now.view.plan now.view.seen now.view.stands (reading end call reply now.view)
      → ((need free : ℕ) → reply ≢ Full need free) → MayEnd reg seen.look end call reply seen.steps before now
  ends call reply on right other = record {
    goes = goes;
    looked = seen.looked;
    paced = seen.paced;
    first = r.first;
    on = on now.view.plan;
    late = seen.looked.upto;
    right = right;
    idle = r.idle;
    idle_now = idle_now;
    full = λ need free e. absurd (other need free e);
  }

  pub load_ends : MayEnd reg seen.look end (Load reg) (Words rec) seen.steps before now
  load_ends = ends (Load reg) (Words rec) (λ p. refl)
      (right_at now.view end (Load reg) (Words rec) (omega arith) (record { there = there_now; may = tt }) (ap (λ (l : List ℕ). Words l) r.claimed.1) refl)
      (λ need free e. absurd cc)

  pub hold_ends : holds_record before.view ≡ false → MayEnd reg seen.look end (Hold reg) Done seen.steps before now
  hold_ends none = ends (Hold reg) Done (λ p. refl)
      (right_at now.view end (Hold reg) Done (omega arith) (record { there = there_now; may = held_stays r.first.sound goes ∙ none_there none }) refl refl)
      (λ need free e. absurd cc)

  -- neither nodes nor exchanges nor scans
  quiet : {mid : View} {clear : List Counted} {links : List ℕ} (call : Call) (reply : Reply) (after : SeatData) → HasEnded now mid clear
      → after ≡ record (stepped (stood_view end call reply mid) now) { noted = links }
      → IsQuiet (seen.steps ++ clear) before after
  quiet {mid = mid} {clear = clear} call reply after e is = record {
    free = ap (λ (z : SeatData). z.free) is ∙ ap (λ (z : SeatData). z.free) seen.stays.same;
    retired = ap (λ (z : SeatData). z.view.retired) is ∙ (ap (λ (z : View). z.retired) e.view ∙ seen.stays.retired);
    none_exchanged = omega (arith, exchanges-append seen.steps clear, seen.looks.none_exchanged, still_exchanges clear e.still);
    none_scanned = omega (arith, scan_loads-append seen.steps clear, seen.looks.none_scanned, e.none_scanned);
  }

  abbrev LoadStood : SeatData → Type 0
  LoadStood after = after ≡ stepped (stood_view end (Load reg) (Words rec) (cleared_view BACK now.view)) (unnoted BACK now)

  load_hold : c ≡ BACK → (after : SeatData) → LoadStood after → HoldStays before after
  load_hold back after is = hold_stays after load_ends (ended_back now goes.sound) is (seen.stays.others HOLD (λ e. absurd (omega arith))) (λ contents held. refl)

  -- a claim was stored, and each had a cause
  pub loaded : c ≡ BACK → ClaimsAreCaused (ReadFailed reg) (seen.steps ++ clear_step now ∷ []) → TakesFew (2 * WIDTH + 8) before now → (after : SeatData)
      → LoadStood after → IsSeat after → IsLoaded reg rec before after
  loaded back caused few after is last =
      let e = ended_back now goes.sound in
      let a = answered_now after load_ends e is last in
      record {
        answered = a.answered;
        nodes = nodes_stay (λ rs. (refl, refl)) a.answered;
        there = ap (λ (s : Stand). register_at after.view s.place reg) a.stand_is ∙ (ap (λ (z : SeatData). register_at z.view end reg) is ∙ r.claimed.1);
        quiet = subst (λ (l : List Counted). IsQuiet l before after) (sym a.steps_are) (quiet (Load reg) (Words rec) after e is);
        hold = load_hold back after is;
        caused = subst (ClaimsAreCaused (ReadFailed reg)) (sym a.steps_are) caused;
        inline = λ none. absurd (let some_stored = seen.stored (omega arith) in
            omega (arith, ap claim_stores a.steps_are, claim_stores-append seen.steps (clear_step now ∷ [])));
        bound =
            let few_seen = takes_these seen.steps few goes.trail in
            let clear : List Counted = clear_step now ∷ [] in
            subst (λ (l : List Counted). length l ≤ 2 * WIDTH + 9 + 2 * lost_steps l) (sym a.steps_are)
            (omega (arith, length-append seen.steps clear, lost-append seen.steps clear));
      }

  pub load_ready : c ≡ BACK → (shared : ObjectData) (after : SeatData) → IsReady shared before → LoadStood after → IsSeat after → IsReady shared after
  load_ready back shared after ready is law = ready_now shared after ready load_ends is law
      (ap (λ (x : Claim). x.word) (seen.stays.others WALK (λ e. absurd (omega arith))) ∙ ready.walk)
      (ap (λ (x : Claim). x.word) (seen.stays.others OWN (λ e. absurd (omega arith))) ∙ ready.own)
      (load_hold back after is)

  abbrev HoldStood : SeatData → Type 0
  HoldStood after = after ≡ stepped (stood_view end (Hold reg) Done now.view) now

  -- the claim stands on the held record's node
  holding : c ≡ HOLD → (after : SeatData) → HoldStood after → IsHolding (register_at after.view end reg) after.view
  holding one after is =
      let view : after.view ≡ stood_view end (Hold reg) Done now.view = ap (λ (z : SeatData). z.view) is in
      let x : Claim = claim_of HOLD now.view in
      let same : claim_of HOLD after.view ≡ x = ap (λ (z : View). claim_of HOLD z) view in
      let here : claim_of c now.view ≡ x = ap (λ (d : ℕ). claim_of d now.view) one in
      let on : On x (word / 2) = subst (λ (y : Claim). On y (word / 2)) here claim.stands in
      let at = at_there now.view.claims HOLD (silent 0) (omega (arith, goes.sound.claims.four)) in
      let cell : x.cell ≡ reg = ap (λ (y : Claim). y.cell) (sym here) ∙ claim.cell in
      let image : x.image ≡ register_at now.view end reg ++ 0 ∷ [] =
      claim_record now.view.plan now.view.seen x (word / 2) (goes.sound.claims.told HOLD (word / 2) x at (inr refl) on) (subst (λ k. k < now.view.plan.registers) (sym cell) there_now)
      ∙ (λ i. register_at now.view ((ap (λ (y : Claim). y.at) (sym here) ∙ claim.now_at) i) (cell i) ++ 0 ∷ []) in
      record {
        held = held_then end (Hold reg) Done now.view after.view view ∙ ap (λ (z : View). Some (register_at z end reg)) (sym view);
        node = word / 2;
        stands = subst (λ (y : Claim). On y (word / 2)) (sym same) on;
        image = ap (λ (y : Claim). y.image) same ∙ (image ∙ ap (λ (z : View). register_at z end reg ++ 0 ∷ []) (sym view));
      }

  pub held_now : holds_record before.view ≡ false → c ≡ HOLD → TakesFew (WIDTH + 4) before now → (after : SeatData)
      → HoldStood after → IsSeat after → IsHeld reg before after
  held_now none one few after is last =
      let e = ended_none now goes.sound in
      let a = answered_now after (hold_ends none) e is last in
      record {
        answered = a.answered;
        nodes = nodes_stay (λ rs. (refl, refl)) a.answered;
        holds = subst (λ (s : Stand). IsHolding (register_at after.view s.place reg) after.view) (sym a.stand_is) (holding one after is);
        quiet = subst (λ (l : List Counted). IsQuiet l before after) (sym a.steps_are) (quiet (Hold reg) Done after e is);
        bound =
            let few_seen = takes_these seen.steps few goes.trail in
            subst (λ (l : List Counted). length l ≤ WIDTH + 4 + 2 * lost_steps l) (sym a.steps_are)
            (omega (arith, length-append seen.steps [], lost-append seen.steps []));
      }

  pub hold_ready : c ≡ HOLD → (shared : ObjectData) (after : SeatData) → IsReady shared before → HoldStood after → IsSeat after → IsReady shared after
  hold_ready one shared after ready is law =
      let other : (d : ℕ) → d ≢ c → claim_of d after.view ≡ claim_of d before.view = λ d ne. ap (λ (z : SeatData). claim_of d z.view) is ∙ seen.stays.others d ne in
      let holds = holding one after is in
      record {
        ours = of_then (ap (λ (z : SeatData). z.object) is) (ap (λ (z : SeatData). z.view.plan) is) (goes_of goes ready.ours);
        law = law;
        idle = ap (λ (z : SeatData). z.holding) is ∙ idle_now;
        back = ap (λ (x : Claim). x.word) (other BACK (λ e. absurd (omega arith))) ∙ ready.back;
        walk = ap (λ (x : Claim). x.word) (other WALK (λ e. absurd (omega arith))) ∙ ready.walk;
        own = ap (λ (x : Claim). x.word) (other OWN (λ e. absurd (omega arith))) ∙ ready.own;
        hold = λ none. absurd (false≢true (sym none ∙ ap is_some holds.held));
        held = λ some_held. (register_at after.view end reg, holds);
      }

-- a call that looks at no cell, of which no step but its stand is more than still
pub record StandsStill (q : ℕ) (call : Call) (reply : Reply) (steps : List Counted) (before mid after : SeatData) : Type 0 where
  pub goes : Goes 0 (Some (length before.view.seen)) steps before mid
  pub same : mid ≡ stepped mid.view before
  pub retired : mid.view.retired ≡ before.view.retired
  pub is : after ≡ stepped (stood_view q call reply mid.view) mid
  pub end : q ≡ length mid.view.seen
  pub right : IsRight mid.view.plan mid.view.seen mid.view.stands (reading q call reply mid.view)
  pub last : IsSeat after

pub stood_still : {q : ℕ} {call : Call} {reply : Reply} {steps : List Counted} {before mid after : SeatData} → StandsStill q call reply steps before mid after
    → StoodStill call reply (reading q call reply mid.view) steps before.view after.view
stood_still {q = q} {call = call} {reply = reply} {before = before} {mid = mid} {after = after} s =
    let e : after.view ≡ stood_view q call reply mid.view = ap (λ (z : SeatData). z.view) s.is in
    let longer = longer_seen before.view.seen mid.view.seen s.goes.seen in
    let end = s.end in
    let sound = s.last.sound in
    record {
      stands = ap (λ (z : View). z.stands) e ∙ ap (λ (z : View). z.stands ++ reading q call reply mid.view ∷ []) s.goes.only;
      by = ap (λ (z : View). number z) s.goes.only;
      call = refl;
      reply = refl;
      held = ap (λ (z : View). z.numbers) s.goes.only;
      stock = s.goes.stock;
      trail = ap (λ (z : View). z.trail) e ∙ s.goes.trail;
      from = omega arith;
      right = subst (λ (z : View). IsRight z.plan z.seen before.view.stands (reading q call reply mid.view)) (sym e)
          (subst (λ (l : List Stand). IsRight mid.view.plan mid.view.seen l (reading q call reply mid.view)) (ap (λ (z : View). z.stands) s.goes.only) s.right);
      lawful = sound.lawful;
      seen = subst (λ (z : View). GoesOn before.view.seen z.seen) (sym e) s.goes.seen;
      plan = ap (λ (z : View). z.plan) e ∙ ap (λ (z : View). z.plan) s.goes.only;
      numbers = ap (λ (z : View). z.numbers) e ∙ ap (λ (z : View). z.numbers) s.goes.only;
      changes = ap (λ (z : View). z.changes) e ∙ ap (λ (z : View). z.changes) s.goes.only;
      removes = ap (λ (z : View). z.removes) e ∙ ap (λ (z : View). z.removes) s.goes.only;
    }

still_free : {q : ℕ} {call : Call} {reply : Reply} {steps : List Counted} {before mid after : SeatData} → StandsStill q call reply steps before mid after → after.free ≡ before.free
still_free s = ap (λ (z : SeatData). z.free) s.is ∙ ap (λ (z : SeatData). z.free) s.same

still_retired : {q : ℕ} {call : Call} {reply : Reply} {steps : List Counted} {before mid after : SeatData} → StandsStill q call reply steps before mid after → after.view.retired ≡ before.view.retired
still_retired s = ap (λ (z : SeatData). z.view.retired) s.is ∙ s.retired

still_nodes : {q : ℕ} {call : Call} {reply : Reply} {steps : List Counted} {before mid after : SeatData} → StandsStill q call reply steps before mid after → NodesStay before after
still_nodes s = record {
  object = ap (λ (z : SeatData). z.object) s.is ∙ s.goes.object;
  first = ap (λ (z : SeatData). z.first) s.is ∙ s.goes.first;
  nodes = λ i. length (still_free s i) + length (still_retired s i);
}

-- such a call may be answered at the end of what is seen
may_still : (call : Call) (reply : Reply) (now : SeatData) → Sound now.view
    → IsRight now.view.plan now.view.seen now.view.stands (reading (length now.view.seen) call reply now.view)
    → HasLooked (length now.view.seen) call now.view → ((need free : ℕ) → reply ≢ Full need free) → MayAnswer (length now.view.seen) call reply now
may_still call reply now sound right looked done = record {
  stand = record { right = right; above = above_end now.view.plan now.view.numbers now.view.seen now.view.stands (length now.view.seen) call reply now.view sound.lawful (omega arith) };
  looked = looked;
  full = λ need free e. absurd (done need free e);
}

-- the held record was read
pub held_read : (words rec : List ℕ) (n : ℕ) (before mid : SeatData) → IsHolding words before.view → On (claim_of HOLD before.view) n → Sound before.view → HasRead n rec before mid → rec ≡ words
held_read words rec n before mid h on sound r =
    let x : Claim = claim_of HOLD before.view in
    let at : get_elem? before.view.claims HOLD ≡ some x = at_there before.view.claims HOLD (silent 0) (omega (arith, sound.claims.four)) in
    let image : r.words ≡ words ++ 0 ∷ [] = r.read.claimed HOLD x at on ∙ h.image in
    let wide_image : length x.image ≡ NODE_WIDTH = (sound.claims.there HOLD n x at on).1 in
    let wide : length words ≡ WIDTH = omega (arith, ap (λ (l : List ℕ). length l) h.image, length-append words (0 ∷ []), wide_image) in
    r.is ∙ (ap (take WIDTH) image ∙ (ap (λ (n : ℕ). take n (words ++ 0 ∷ [])) (sym wide) ∙ take-append_seam words (0 ∷ [])))

-- the node of the held record was read
pub record HasReadHeld (words rec : List ℕ) (n : ℕ) (before mid : SeatData) : Type 0 where
  pub holds : IsHolding words before.view
  pub on : On (claim_of HOLD before.view) n
  pub first : Sound before.view
  pub read : HasRead n rec before mid
  pub last : Sound mid.view

pub has_read_held : {words rec : List ℕ} {n : ℕ} {before mid : SeatData} → IsHolding words before.view → On (claim_of HOLD before.view) n → IsSeat before → HasRead n rec before mid → IsSeat mid
    → HasReadHeld words rec n before mid
has_read_held holds on first read last = record { holds = holds; on = on; first = first.sound; read = read; last = last.sound }

module _ {words rec : List ℕ} {n : ℕ} {before mid : SeatData} (r : HasReadHeld words rec n before mid) where
  abbrev reads : List Counted
  reads = load_steps n 0 r.read.words (length before.view.seen)

  read_same : mid ≡ stepped (record before.view { trail = before.view.trail ++ reads }) before
  read_same = r.read.read.same

  look_goes : Goes 0 (Some (length before.view.seen)) reads before mid
  look_goes = read_goes 0 n r.read.words before mid r.read.read r.last

  still_held : IsHolding rec before.view
  still_held =
      let is = sym (held_read words rec n before mid r.holds r.on r.first r.read) in
      record { held = r.holds.held ∙ ap (λ (l : List ℕ). Some l) is; node = n; stands = r.on; image = r.holds.image ∙ ap (λ (l : List ℕ). l ++ 0 ∷ []) is }

  found : r.read.words ≡ rec ++ 0 ∷ []
  found =
      let x : Claim = claim_of HOLD before.view in
      let at : get_elem? before.view.claims HOLD ≡ some x = at_there before.view.claims HOLD (silent 0) (omega (arith, r.first.claims.four)) in
      r.read.read.claimed HOLD x at r.on ∙ still_held.image

  look_held : held_by mid.view.seen (number mid.view) mid.view.stands ≡ held_by before.view.seen (number before.view) before.view.stands
  look_held = held_stays r.first look_goes

  abbrev look_stand : Stand
  look_stand = reading (length mid.view.seen) Look (Words rec) mid.view

  look_right : IsRight mid.view.plan mid.view.seen mid.view.stands look_stand
  look_right = right_at mid.view (length mid.view.seen) Look (Words rec) (omega arith) (record { there = tt; may = ap is_some (look_held ∙ still_held.held) })
      (ap (λ (o : Option (List ℕ)). Words (unwrap_or o [])) (look_held ∙ still_held.held)) refl

  pub may_look : MayAnswer (length mid.view.seen) Look (Words rec) mid
  may_look = may_still Look (Words rec) mid r.last look_right tt (λ need free e. absurd cc)

  abbrev LookStood : SeatData → Type 0
  LookStood after = after ≡ stepped (stood_view (length mid.view.seen) Look (Words rec) mid.view) mid

  look_hold : (after : SeatData) → LookStood after → HoldStays before after
  look_hold after is = record {
    claim = ap (λ (z : SeatData). claim_of HOLD z.view) is ∙ ap (λ (z : SeatData). claim_of HOLD z.view) read_same;
    held = held_then (length mid.view.seen) Look (Words rec) mid.view after.view (ap (λ (z : SeatData). z.view) is) ∙ look_held;
  }

  look_stands : (after : SeatData) → LookStood after → IsSeat after → StandsStill (length mid.view.seen) Look (Words rec) reads before mid after
  look_stands after is last = record {
    goes = look_goes;
    same = read_same ∙ ap (λ (z : SeatData). stepped z.view before) (sym read_same);
    retired = ap (λ (z : SeatData). z.view.retired) read_same;
    is = is;
    end = refl;
    right = look_right;
    last = last;
  }

  pub looked : (after : SeatData) → LookStood after → IsSeat after → IsLooked rec before after
  unfolding still_held
  looked after is last =
      let s = look_stands after is last in
      record {
        stand = look_stand;
        stood = (
          still_held,
          subst (λ (l : List ℕ). StoodStill Look (Words rec) look_stand (load_steps n 0 l (length before.view.seen)) before.view after.view) found (stood_still s),
        );
        nodes = still_nodes s;
        free = still_free s;
        retired = still_retired s;
        hold = look_hold after is;
      }

  pub look_ready : (shared : ObjectData) (after : SeatData) → IsReady shared before → LookStood after → IsSeat after → IsReady shared after
  look_ready shared after ready is law =
      let same : after.view.claims ≡ before.view.claims = ap (λ (z : SeatData). z.view.claims) is ∙ ap (λ (z : SeatData). z.view.claims) read_same in
      let word : (d : ℕ) → (claim_of d after.view).word ≡ (claim_of d before.view).word = λ d. ap (λ (l : List Claim). (get_or l d (silent 0)).word) same in
      ready_after shared before after ready
      (of_then (ap (λ (z : SeatData). z.object) is) (ap (λ (z : SeatData). z.view.plan) is) (goes_of look_goes ready.ours))
      law
      (ap (λ (z : SeatData). z.holding) is ∙ (ap (λ (z : SeatData). z.holding) read_same ∙ ready.idle))
      (word BACK ∙ ready.back)
      (word WALK ∙ ready.walk)
      (word OWN ∙ ready.own)
      (look_hold after is)

-- the Hold claim was ended
pub record HasReleased (before mid : SeatData) : Type 0 where
  pub cleared : mid ≡ stepped (cleared_view HOLD before.view) before
  pub held : holds_record before.view ≡ true
  pub first : Sound before.view
  pub last : Sound mid.view

module _ {before mid : SeatData} (r : HasReleased before mid) where
  abbrev clear : List Counted
  clear = counted (ClaimClear HOLD) 0 (length before.view.seen) ∷ []

  clear_view : mid.view ≡ cleared_view HOLD before.view
  clear_view = ap (λ (z : SeatData). z.view) r.cleared

  release_goes : Goes 0 (Some (length before.view.seen)) clear before mid
  release_goes = goes_still 0 clear before mid (subst (λ (z : View). OnlySteps before.view z) (sym clear_view) refl)
      (ap (λ (z : View). z.trail) clear_view) (ap (λ (z : View). z.seen) clear_view) refl
      (ap (λ (z : SeatData). z.object) r.cleared) (ap (λ (z : SeatData). z.first) r.cleared) (ap stock clear_view) r.last

  release_right : IsRight mid.view.plan mid.view.seen mid.view.stands (reading (length mid.view.seen) Release Done mid.view)
  release_right = right_at mid.view (length mid.view.seen) Release Done (omega arith) (record { there = tt; may = ap is_some (held_stays r.first release_goes) ∙ r.held })
      refl refl

  pub may_release : MayAnswer (length mid.view.seen) Release Done mid
  may_release = may_still Release Done mid r.last release_right tt (λ need free e. absurd cc)

  abbrev ReleaseStood : SeatData → Type 0
  ReleaseStood after = after ≡ stepped (stood_view (length mid.view.seen) Release Done mid.view) mid

  none_held : (after : SeatData) → ReleaseStood after → holds_record after.view ≡ false
  none_held after is = ap is_some (held_then (length mid.view.seen) Release Done mid.view after.view (ap (λ (z : SeatData). z.view) is))

  release_stands : (after : SeatData) → ReleaseStood after → IsSeat after → StandsStill (length mid.view.seen) Release Done clear before mid after
  release_stands after is last = record {
    goes = release_goes;
    same = r.cleared ∙ ap (λ (z : SeatData). stepped z.view before) (sym r.cleared);
    retired = ap (λ (z : View). z.retired) clear_view;
    is = is;
    end = refl;
    right = release_right;
    last = last;
  }

  pub released : (after : SeatData) → ReleaseStood after → IsSeat after → IsReleased before after
  released after is last =
      let s = release_stands after is last in
      record {
        stand = reading (length mid.view.seen) Release Done mid.view;
        stood = stood_still s;
        nodes = still_nodes s;
        free = still_free s;
        retired = still_retired s;
        none_held = none_held after is;
      }

  pub release_ready : (shared : ObjectData) (after : SeatData) → IsReady shared before → ReleaseStood after → IsSeat after → IsReady shared after
  release_ready shared after ready is law =
      let old : List Claim = before.view.claims in
      let claims : after.view.claims ≡ set old HOLD (silent 0) = ap (λ (z : SeatData). z.view.claims) is ∙ ap (λ (z : View). z.claims) clear_view in
      let word : (d : ℕ) → (claim_of d after.view).word ≡ (get_or (set old HOLD (silent 0)) d (silent 0)).word = λ d. ap (λ (l : List Claim). (get_or l d (silent 0)).word) claims in
      let other : (d : ℕ) → d ≢ HOLD → (claim_of d after.view).word ≡ (claim_of d before.view).word =
      λ d ne. word d ∙ ap (λ (x : Claim). x.word) (get_or-set_other old HOLD d (silent 0) (silent 0) ne) in
      record {
        ours = of_then (ap (λ (z : SeatData). z.object) is) (ap (λ (z : SeatData). z.view.plan) is) (goes_of release_goes ready.ours);
        law = law;
        idle = ap (λ (z : SeatData). z.holding) is ∙ (ap (λ (z : SeatData). z.holding) r.cleared ∙ ready.idle);
        back = other BACK (λ e. absurd (omega arith)) ∙ ready.back;
        walk = other WALK (λ e. absurd (omega arith)) ∙ ready.walk;
        own = other OWN (λ e. absurd (omega arith)) ∙ ready.own;
        hold = λ none. word HOLD ∙ ap (λ (x : Claim). x.word) (get_or-set_same old HOLD (silent 0) (silent 0) (omega (arith, r.first.claims.four)));
        held = λ one. absurd (false≢true (sym (none_held after is) ∙ one));
      }

-- the node of the held record
pub hold_low : (words : List ℕ) (v : View) (h : IsHolding words v) → Sound v → h.node < 2 ^ 32
hold_low words v h sound =
    let at : get_elem? v.claims HOLD ≡ some (claim_of HOLD v) = at_there v.claims HOLD (silent 0) (omega (arith, sound.claims.four)) in
    let there : h.node < nodes v.plan = (sound.claims.there HOLD h.node (claim_of HOLD v) at h.stands).0 in
    let low = nodes_low v.plan sound.plan in omega arith

pub hold_on : (words : List ℕ) (v : View) (c x : ℕ) (h : IsHolding words v) → x ≡ (claim_of c v).word → c ≡ HOLD → x ≡ h.node + 1
hold_on words v c x h e is = e ∙ (ap (λ (k : ℕ). (claim_of k v).word) is ∙ h.stands.at)
