-- How a call that gives its register a record begins, and how a store begins another turn.
use Rattle.std.proofs.Common.{◌≡◌, ◌∙◌, ℕ, ◌-◌, ◌*◌, ◌<◌, ◌≤◌, ◌+◌, true, false, List, [], ◌++◌, Option}
use Rattle.std.proofs.Common.{None, Some, unwrap_or, length, drop, length-append, refl, sym, ap, subst, arith, inl, inr, ⊎_elim}
use Rattle.std.proofs.Math.Seq.{drop-append_seam}
use Rattle.std.proofs.lemmas.Bool.{false≢true}
use Rattle.big_atomic.proofs.Deciding.{first_at, seen_idle, store_agrees, store_gives, swap_gives}
use Rattle.big_atomic.proofs.Goings.{calling_then}
use Rattle.big_atomic.proofs.Marking.{turn_behind}
use Rattle.big_atomic.proofs.Pacing.{paces_then}
use Rattle.big_atomic.proofs.Paid.{exchanges-append, node_stores-append, scan_loads-append}
use Rattle.big_atomic.proofs.Refusing.{changed_unlike}
use Rattle.big_atomic.proofs.Versioned.{seen_begun}
use Rattle.big_atomic.specs.Calling.{Began, Goes, HasSeen, HasStartedRecord, HasTried, tried_at}
use Rattle.big_atomic.specs.Giving.{AtTurn, Begun, Carries, HasClaimedNode, HasDecided, HasLostTurn, HasOther, HoldsNode, IsOnce}
use Rattle.big_atomic.specs.Ready.{IsReady}
use Rattle.big_atomic.specs.Turns.{exchanges, lost_steps}
use Rattle.hazard_claims.specs.declared.answers.Recheck.TheVariants.{Other, Same}
use Rattle.seat_history.specs.declared.call.Call.TheVariants.{Store, Swap}
use Rattle.seat_history.specs.declared.reply.Reply.TheVariants.{Done, Yes}
use Rattle.seat_history.specs.declared.words.TheConstants.{WIDTH}
use Rattle.step_rules.proofs.Line.Trails.{longer_seen}
use Rattle.step_rules.specs.Claims.{BACK, HOLD, OWN, WALK}
use Rattle.step_rules.specs.Kinds.Standing.{first_look}
use Rattle.step_rules.specs.SeatData.{IsSeat, ObjectData, SeatData}
use Rattle.step_rules.specs.Steps.{stepped}
use Rattle.step_rules.specs.Views.{version_view, words_in}
use Rattle.step_rules.specs.declared.plan.Plan.{Plan}
use Rattle.step_rules.specs.declared.view.Claim.{Claim}
use Rattle.step_rules.specs.declared.view.Counted.{Counted}
use Rattle.step_rules.specs.declared.view.Held.{Held}
use Rattle.step_rules.specs.declared.view.View.{View}

pub begins : {shared : ObjectData} {reg : ℕ} {seat : SeatData} → IsReady shared seat → reg < shared.plan.registers → 0 < seat.view.changes → Began shared reg seat
begins ready there left = record { ready = ready; there = there; left = left }

-- the first look of three steps is where a trail that ends with them had it
looked_back : {reg look : ℕ} {steps : List Counted} {before now : SeatData} → Goes reg None steps before now → length steps ≡ 3 → first_look reg steps ≡ Some look → tried_at reg now.view ≡ look
looked_back {reg} {steps} {before} {now} g three looked =
    let at : length now.view.trail - 3 ≡ length before.view.trail = omega (arith, ap length g.trail, length-append before.view.trail steps) in
    let last : drop (length now.view.trail - 3) now.view.trail ≡ steps = (λ i. drop (at i) (g.trail i)) ∙ drop-append_seam before.view.trail steps in
    ap (λ (l : List Counted). unwrap_or (first_look reg l) 0) last ∙ ap (λ (x : Option ℕ). unwrap_or x 0) looked

-- A COMPARE-AND-SWAP tries once: its first look is where the last three steps begin
module _ {shared : ObjectData} {reg : ℕ} (old new : List ℕ) {before : SeatData} (began : Began shared reg before) (old_wide : length old ≡ WIDTH) (wide : length new ≡ WIDTH) where
  abbrev swap_begun : ℕ → Begun shared reg new Yes (Swap reg old new)
  swap_begun look = record { gives = swap_gives reg old new old_wide wide; before = before; began = began; look = look; once = true }

  -- it found the version before
  module _ {version : ℕ} {mid : SeatData} (is : mid ≡ stepped (version_view reg version before.view) before) where
    abbrev swap_first : {word claims lost : ℕ} {now : SeatData} (s : HasSeen BACK reg word claims mid now) → claims ≤ 1 → length s.steps ≡ 3
        → lost_steps s.steps ≤ lost → IsSeat now → AtTurn (swap_begun (tried_at reg now.view)) lost 4 now
    swap_first {now = now} s serves three low law =
        let none = s.looks.none_exchanged in
        first_at {b = swap_begun (tried_at reg now.view)} (seen_begun before mid is s) serves (sym (looked_back (s.goes None) three s.looked.looked))
        (λ _. record { lost_most = omega arith; tried_most = omega arith; most = omega arith }) law

    swap_idle : {word claims : ℕ} {now : SeatData} → HasSeen BACK reg word claims mid now → now.holding ≡ []
    swap_idle s = seen_idle began.ready.idle (seen_begun before mid is s)

    pub swap_starts : {word : ℕ} {now : SeatData} → HasTried BACK reg (Same word) mid now → IsSeat now
        → (b : Begun shared reg new Yes (Swap reg old new)) × IsOnce (tried_at reg now.view) b × (b.before ≡ before) × HasClaimedNode b version word now
    swap_starts {now = now} t law = (
      swap_begun (tried_at reg now.view),
      record { look_is = refl; once = refl },
      refl,
      record {
        at = swap_first t.0 (omega arith) t.1 (let none = t.2 in omega arith) law;
        idle = swap_idle t.0;
        unfilled = t.0.none_filled;
        turn = record { loaded = record { front = []; saw = length before.view.seen; rest = t.0.steps; whole = refl; kept = t.2 }; looked = t.4 };
        claim = t.3;
      },
    )

    -- others changed the register since
    pub swap_late : {word : ℕ} {now : SeatData} → HasTried BACK reg (Other word) mid now → IsSeat now
        → (b : Begun shared reg new Yes (Swap reg old new)) × IsOnce (tried_at reg now.view) b × (b.before ≡ before) × HasOther b old now
    swap_late {now = now} t law = (
      swap_begun (tried_at reg now.view),
      record { look_is = refl; once = refl },
      refl,
      changed_unlike (swap_first t.0 (omega arith) t.1 t.2 law) (omega arith) (omega arith) (swap_idle t.0)
          (let is : tried_at reg now.view ≡ t.0.look = looked_back (t.0.goes None) t.1 t.0.looked.looked in omega arith) t.3,
    )

-- A STORE
pub store_starts : {shared : ObjectData} {reg version word : ℕ} {rec new : List ℕ} {kept : Option ℕ} {before now : SeatData} → Began shared reg before → length new ≡ WIDTH
    → HasStartedRecord reg version word rec before now → kept ≡ None → IsSeat now
    → (b : Begun shared reg new Done (Store reg new)) × (b.before ≡ before) × (b.once ≡ false) × HasDecided b version word rec kept now
store_starts {shared = shared} {reg = reg} {rec = rec} {new = new} {before = before} {now = now} began wide h none law =
    let b : Begun shared reg new Done (Store reg new) = record { gives = store_gives reg new wide; before = before; began = began; look = h.0.0.0.look; once = false } in (
      b,
      refl,
      refl,
      record {
        at = first_at {b = b} h.0.0.0 (omega arith) refl (λ e. absurd (false≢true e)) law;
        carried = subst (λ (k : Option ℕ). Carries k new now) (sym none) (seen_idle began.ready.idle h.0.0.0);
        unfilled = λ _. h.0.0.0.none_filled;
        turn = h.1;
        claim = h.0.0.1;
        there = h.0.1;
        agrees = store_agrees reg rec new;
      },
    )

-- after a lost turn its register's node was claimed anew, and its own node stays held
module _ {shared : ObjectData} {reg version word seen node : ℕ} {rec new : List ℕ} {b : Begun shared reg new Done (Store reg new)} {mid now : SeatData}
    (l : HasLostTurn b seen node mid) (any : b.once ≡ false) (h : HasStartedRecord reg version word rec mid now) (law : IsSeat now) where
  abbrev s : HasSeen BACK reg word 1 mid now
  s = h.0.0.0

  tried : 0 < exchanges (l.at.past.steps ++ s.steps)
  tried = let some = l.tried in omega (arith, exchanges-append l.at.past.steps s.steps)

  again_held : HoldsNode node new now
  again_held = record {
    holding = ap (λ (z : SeatData). z.holding) s.stays.same ∙ l.carried.holding;
    words = ap (λ (own : List Held). words_in own node) s.stays.own ∙ l.carried.words;
  }

  abbrev again_at : AtTurn b 0 (WIDTH + 5) now
  again_at =
      let p = l.at.past in record {
        past = record {
          steps = p.steps ++ s.steps;
          calling = calling_then p.calling (s.goes (Some (length mid.view.seen))) (s.stays.others HOLD (λ e. absurd (omega arith)));
          paced = paces_then l.paced s.paced;
          scans =
              let none = s.looks.none_scanned in
              ⊎_elim (λ e. inl (omega (arith, scan_loads-append p.steps s.steps))) (λ e. let all = e.0 in inr (omega (arith, scan_loads-append p.steps s.steps), e.1)) p.scans;
          walk = ap (λ (y : Claim). y.word) (s.stays.others WALK (λ e. absurd (omega arith))) ∙ p.walk;
          own = ap (λ (y : Claim). y.word) (s.stays.others OWN (λ e. absurd (omega arith))) ∙ p.own;
          law = law;
          never = λ never. absurd (l.changes never);
          filled = let filled = p.filled in let none = s.none_filled in omega (arith, node_stores-append p.steps s.steps);
          spent = λ once. absurd (false≢true (sym any ∙ once));
        };
        turn = inr (tried, omega (arith, ap (length {A = ℕ}) again_held.holding));
      }

  pub store_again : {kept : Option ℕ} → kept ≡ Some node → HasDecided b version word rec kept now
  store_again same = record {
    at = again_at;
    carried = subst (λ (k : Option ℕ). Carries k new now) (sym same) again_held;
    unfilled = λ none. absurd (let e = sym same ∙ none in cc);
    turn = turn_behind l.at.past.steps s.steps h.1;
    claim = h.0.0.1;
    there = h.0.1;
    agrees = store_agrees reg rec new;
  }

  -- and more was seen
  pub turn_smaller : (old : View) → old.plan ≡ b.before.view.plan → length old.seen ≡ seen
      → now.view.plan.seats * now.view.plan.changes - length now.view.seen < old.plan.seats * old.plan.changes - length old.seen
  turn_smaller old plan is =
      let same : now.view.plan ≡ old.plan = ap (λ (z : View). z.plan) again_at.past.calling.goes.only ∙ sym plan in
      let longer = l.longer in
      let further = longer_seen mid.view.seen now.view.seen (s.goes None).seen in
      let within = law.sound.within in
      subst (λ (p : Plan). now.view.plan.seats * now.view.plan.changes - length now.view.seen < p.seats * p.changes - length old.seen) same (omega arith)
