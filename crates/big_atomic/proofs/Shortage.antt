-- How a call is answered Full.
use Rattle.std.proofs.Common.{◌≡◌, ◌∙◌, ℕ, ◌+◌, ◌*◌, ◌<◌, ◌≤◌, false, List, [], ◌∷◌, ◌++◌, Option, None, Some}
use Rattle.std.proofs.Common.{length, take, drop, filter, append_assoc, refl, sym, ap, subst, arith, ◌⊎◌, inl, inr, ⊎_elim}
use Rattle.std.proofs.lemmas.Bool.{and_right, cases_Bool}
use Rattle.big_atomic.proofs.Answered.{MayEnd, ended_back, held_then, right_at, scanned_since, EndsAs, ended_as}
use Rattle.big_atomic.proofs.Goings.{calling_then, held_stays}
use Rattle.big_atomic.proofs.Pacing.{paces_then}
use Rattle.big_atomic.proofs.Paid.{costs_then, costs_within, exchanges-append, node_stores-append, scan_loads-append}
use Rattle.big_atomic.proofs.Scanning.{holding_stays, own_words, own_words_later, scan_all, scan_few, scan_goes, scan_lost}
use Rattle.big_atomic.proofs.Scanning.{scan_paced, scan_seen, scan_tried, scan_unfilled, scan_view, scanned_now}
use Rattle.big_atomic.specs.Calling.{Calling, Costs, Goes, HasReady, HasRoom}
use Rattle.big_atomic.specs.Calls.{IsFullAnswer}
use Rattle.big_atomic.specs.Giving.{Begun, HasDecided, HasTold, OnlyLooked, Past}
use Rattle.big_atomic.specs.Ready.{IsReady}
use Rattle.big_atomic.specs.Turns.{exchanges, node_stores, scan_loads}
use Rattle.hazard_claims.specs.Scanning.{IsScan, names}
use Rattle.seat_history.specs.Change.{is_change}
use Rattle.seat_history.specs.History.{state_at}
use Rattle.seat_history.specs.Step.{is_same}
use Rattle.seat_history.specs.declared.call.Call.{Call}
use Rattle.seat_history.specs.declared.entry.Entry.{Entry}
use Rattle.seat_history.specs.declared.reply.Reply.{Reply}
use Rattle.seat_history.specs.declared.reply.Reply.TheVariants.{Full}
use Rattle.seat_history.specs.declared.words.TheConstants.{WIDTH}
use Rattle.step_rules.specs.Claims.{BACK, HOLD, OWN}
use Rattle.step_rules.specs.History.{cell_of}
use Rattle.step_rules.specs.Lawful.{IsRight, held_by}
use Rattle.step_rules.specs.Records.{Edit, need, records_at}
use Rattle.step_rules.specs.SeatData.{IsHolding, IsSeat, ObjectData, SeatData, holds_record}
use Rattle.step_rules.specs.Sound.{Sound}
use Rattle.step_rules.specs.Steps.{FindsOwnWords, HasScanned, scan_kinds}
use Rattle.step_rules.specs.Views.{claim_of, cleared_view, counted, number, reading, stock, stood_view}
use Rattle.step_rules.specs.declared.layout.TheConstants.{CLAIMS, NODE_WIDTH}
use Rattle.step_rules.specs.declared.plan.Plan.{Plan}
use Rattle.step_rules.specs.declared.view.Claim.{Claim}
use Rattle.step_rules.specs.declared.view.Counted.{Counted}
use Rattle.step_rules.specs.declared.view.Kind.TheVariants.{ClaimClear}
use Rattle.big_atomic.proofs.Deciding.{changes_now, there_now, turn_first}
use Rattle.step_rules.specs.declared.view.View.{View}

-- the Hold word of a call in progress
pub hold_word : {shared : ObjectData} {cell : ℕ} {found : Option ℕ} {steps : List Counted} {before now : SeatData} → IsReady shared before → Sound before.view → Goes cell found steps before now
    → claim_of HOLD now.view ≡ claim_of HOLD before.view → ((claim_of HOLD now.view).word ≡ 0) ⊎ ((held : List ℕ) × IsHolding held now.view)
hold_word {before = before} {now = now} ready sound goes hold = ⊎_elim
    (λ one. let h = ready.held one in inr (h.0, holding_stays h.0 before.view now.view (held_stays sound goes) hold h.1))
    (λ none. inl (ap (λ (y : Claim). y.word) hold ∙ ready.hold none))
    (cases_Bool (holds_record before.view))

-- a call that is to change its register scanned in its first turn, and has no free node, of which it needs one
pub record IsShort {shared : ObjectData} {reg : ℕ} {new : List ℕ} {done : Reply} {call : Call} (b : Begun shared reg new done call) (version word : ℕ)
    (rec : List ℕ) (u w : SeatData) : Type 0 where
  pub decided : HasDecided b version word rec None u
  pub other : is_same rec new ≡ false
  pub room : HasRoom false u w
  pub law : IsSeat w

-- so where no node came to be held
pub short_of : {shared : ObjectData} {reg : ℕ} {new : List ℕ} {done : Reply} {call : Call} {b : Begun shared reg new done call} {version word : ℕ} {rec : List ℕ} {u w : SeatData}
    (kept : Option ℕ) → HasDecided b version word rec kept u → is_same rec new ≡ false → HasReady kept None new u w → IsSeat w → IsShort b version word rec u w
short_of None d other room law = record { decided = d; other = other; room = room; law = law }
short_of (Some node) d other kept law = absurd cc

module _ {shared : ObjectData} {reg : ℕ} {new : List ℕ} {done : Reply} {call : Call} {b : Begun shared reg new done call} {version word : ℕ} {rec : List ℕ} {u w : SeatData}
    (s : IsShort b version word rec u w) where
  abbrev p : Past b 0 (WIDTH + 5) u
  p = s.decided.at.past

  pub scanned : (u.free ≡ []) × IsScan u w
  scanned = ⊎_elim
      (λ had. absurd (let free = had.0 in omega (arith, ap (λ (z : SeatData). length z.free) had.1, ap (length {A = ℕ}) (s.room.none_free refl))))
      (λ made. made) s.room.made

  abbrev scan : IsScan u w
  scan = scanned.1

  first : OnlyLooked p.steps b.before u
  first = turn_first s.decided scanned.0

  none : w.free ≡ []
  none = s.room.none_free refl

  abbrev scan_steps : List Counted
  scan_steps = scan.clear ++ scan.loads

  abbrev clear : List Counted
  clear = counted (ClaimClear BACK) 0 (length w.view.seen) ∷ []

  calling : Calling reg (p.steps ++ scan_steps) b.look b.before w
  calling = calling_then p.calling (scan_goes scan p.law s.law reg) (scan.claims HOLD (λ e. absurd (omega arith)))

  words : FindsOwnWords w.view scan.loads
  words = own_words scan p.law s.law s.decided.claim.stands.on p.own (hold_word b.began.ready b.began.ready.law.sound p.calling.goes p.calling.hold)

  plan_same : w.view.plan ≡ u.view.plan
  plan_same = ap (λ (z : View). z.plan) (scan_view scan p.law s.law)

  has_scanned : HasScanned w.view (p.steps ++ scan_steps)
  has_scanned = scanned_now scan p.law s.law p.steps words

  idle_now : w.holding ≡ []
  idle_now = ap (λ (z : SeatData). z.holding) scan.same ∙ s.decided.carried

  -- all the seat's nodes are retired, and no more are than there are claim words
  few_nodes : stock w.view ≤ 4 * w.view.plan.seats
  few_nodes =
      let few = scan.few in
      let long = s.law.long in
      let seats = ap (λ (q : Plan). q.seats) plan_same in
      omega (arith, ap (length {A = ℕ}) none, ap (length {A = ℕ}) idle_now)

  short_before : stock b.before.view ≤ 4 * b.before.view.plan.seats
  short_before =
      let few = few_nodes in
      let same = calling.goes.stock in
      let seats = ap (λ (z : View). z.plan.seats) calling.goes.only in
      omega arith

  right_full : IsRight w.view.plan w.view.seen w.view.stands (reading (length w.view.seen) call (Full 1 0) w.view)
  right_full =
      let few = few_nodes in
      let seen = scan_seen scan p.law s.law in
      let log = take (length w.view.seen) w.view.seen in
      let rs = records_at w.view.plan log (cell_of w.view.plan call) in
      right_at w.view (length w.view.seen) call (Full 1 0) (omega arith)
      (record {
        there = b.gives.inside w.view.plan (subst (λ (q : Plan). reg < q.registers) (sym plan_same) (there_now p));
        may = b.gives.may (held_by w.view.seen (number w.view) w.view.stands);
      })
      (record {
        changes = ap (λ (l : List Entry). is_change (state_at l (length l)) call) seen
            ∙ changes_now s.decided s.other;
        need_is = sym (ap (λ (e : Edit). need (length rs) e) (b.gives.edits rs));
        few = omega arith;
        most = omega arith;
        least = omega arith;
      })
      (sym (and_right (is_change (state_at w.view.seen (length w.view.seen)) call) false refl))

  pub short_end : MayEnd reg b.look (length w.view.seen) call (Full 1 0) (p.steps ++ scan_steps) b.before w
  short_end = record {
    goes = calling.goes;
    looked = calling.looked;
    paced = paces_then p.paced (scan_paced scan p.law s.law 1);
    first = b.began.ready.law;
    on = b.gives.on w.view.plan;
    late = calling.looked.upto;
    right = right_full;
    idle = b.began.ready.idle;
    idle_now = idle_now;
    full = full;
  }
    where
      full : (need free : ℕ) → Full 1 0 ≡ Full need free → (free ≡ length w.free) × HasScanned w.view (drop w.view.since w.view.trail)
      full need free e = (
        (let zero : 0 ≡ free = cc in sym zero) ∙ sym (ap (length {A = ℕ}) none),
        scanned_since b.before.view w.view (p.steps ++ scan_steps) b.began.ready.law.sound (ap (λ (z : View). z.since) calling.goes.only) calling.goes.trail has_scanned,
      )

  abbrev answered_view : View
  answered_view = stood_view (length w.view.seen) call (Full 1 0) (cleared_view BACK w.view)

  -- the four facts on Full
  short_full : {need free : ℕ} {final : SeatData} → need ≡ 1 → free ≡ 0 → EndsAs (length w.view.seen) call (Full 1 0) w final
      → IsFullAnswer need free ((p.steps ++ scan_steps) ++ clear) b.before final
  short_full {final = final} one zero is =
      let view : final.view ≡ answered_view = ap (λ (z : SeatData). z.view) is in
      let seats = ap (λ (z : View). z.plan.seats) calling.goes.only in
      let few = scan.few in
      let looked_seats = ap (λ (q : Plan). q.seats) plan_same in
      let hold : claim_of HOLD final.view ≡ claim_of HOLD w.view = ap (λ (z : View). claim_of HOLD z) view ∙ (ended_back w calling.goes.sound).others HOLD (λ e. absurd (omega arith)) in
      let held : held_by final.view.seen (number final.view) final.view.stands ≡ held_by w.view.seen (number w.view) w.view.stands =
      held_then (length w.view.seen) call (Full 1 0) (cleared_view BACK w.view) final.view view
      ∙ b.gives.keeps (state_at w.view.seen (length w.view.seen)) (held_by w.view.seen (number w.view) w.view.stands) in
      record {
        free_now = zero ∙ sym (ap (λ (z : SeatData). length z.free) is ∙ ap (length {A = ℕ}) none);
        few = omega arith;
        scan = record {
          front = p.steps ++ scan.clear;
          loads = scan.loads;
          back = clear;
          whole = ap (λ (l : List Counted). l ++ clear) (sym (append_assoc p.steps scan.clear scan.loads)) ∙ append_assoc (p.steps ++ scan.clear) scan.loads clear;
          kinds = scan.kinds ∙ ap (λ (q : Plan). scan_kinds 0 (CLAIMS * q.seats)) (sym (ap (λ (z : View). z.plan) view ∙ plan_same));
          own_words = own_words_later (ap (λ (z : View). number z) view) held hold words;
        };
        retired = ap (λ (z : View). z.retired) view ∙ (scan.retired ∙ ap (filter (λ n. names n scan.loads)) first.retired);
        few_retired = omega (arith, ap (λ (z : View). length z.retired) view);
      }

  pub short_told : {final : SeatData} → EndsAs (length w.view.seen) call (Full 1 0) w final → IsSeat final → HasTold b (Full 1 0) final
  short_told {final} is law =
      let own = ap (λ (y : Claim). y.word) (scan.claims OWN (λ e. absurd (omega arith))) ∙ p.own in
      let e = ended_as b.began short_end is law (scan.claims HOLD (λ e. absurd (omega arith)) ∙ p.calling.hold) scan.walk_none own b.gives.keeps in
      let a = e.has in
      let no_scan = first.looks.none_scanned in
      let no_exchange = first.looks.none_exchanged in
      let all : List Counted = (p.steps ++ scan_steps) ++ clear in
      let seats : u.view.plan.seats ≡ b.before.view.plan.seats = ap (λ (z : View). z.plan.seats) p.calling.goes.only in
      let none_tried : exchanges all ≡ 0 = omega (
        arith,
        exchanges-append (p.steps ++ scan_steps) clear,
        exchanges-append p.steps scan_steps,
        scan_tried scan p.law s.law,
      ) in record {
        answered = a.answered;
        look_is = a.look_is;
        hold = e.hold;
        ready = e.ready;
        scans = inr (
          ap scan_loads a.steps_are ∙ omega (arith, scan_loads-append (p.steps ++ scan_steps) clear, scan_loads-append p.steps scan_steps, scan_all scan p.law s.law),
          let nodes = first.nodes in omega (arith, ap (length {A = ℕ}) scanned.0, ap (length {A = ℕ}) s.decided.carried),
          inl refl,
        );
        full = λ need free same. (
          subst (λ (l : List Counted). IsFullAnswer need free l b.before final) (sym a.steps_are)
              (short_full (let q : 1 ≡ need = cc in sym q) (let q : 0 ≡ free = cc in sym q) is),
          short_before,
        );
        never = λ _. ap exchanges a.steps_are ∙ none_tried;
        filled =
            let filled = p.filled in
            omega (
              arith,
              ap node_stores a.steps_are,
              node_stores-append (p.steps ++ scan_steps) clear,
              node_stores-append p.steps scan_steps,
              scan_unfilled scan p.law s.law,
            );
        spent = λ once.
            let spent : Costs 0 0 (WIDTH + 6 + 4 * b.before.view.plan.seats) (p.steps ++ scan_steps) =
            costs_then scan_steps (p.spent once) (scan_lost scan p.law s.law) (scan_tried scan p.law s.law) (omega (arith, scan_few scan p.law s.law)) in
            subst (λ (l : List Counted). Costs 1 2 (3 * NODE_WIDTH + 4 * b.before.view.plan.seats + 16) l) (sym a.steps_are)
            (costs_then {m = 3 * NODE_WIDTH + 4 * b.before.view.plan.seats + 15} clear (costs_within spent (omega arith) (omega arith) (omega arith)) refl refl (omega arith));
      }
