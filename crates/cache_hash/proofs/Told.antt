-- Ends of a call without a change.
use Rattle.std.proofs.Common.{◌≡◌, ◌∙◌, ℕ, ◌+◌, ◌*◌, ◌<◌, ◌≤◌, Bool, true, false, ◌&&◌, List, [], ◌∷◌, ◌++◌}
use Rattle.std.proofs.Common.{not, Option, length, drop, take, refl, sym, ap, subst, arith, ◌⊎◌, inl, inr, ⊎_elim}
use Rattle.std.proofs.lemmas.Bool.{and_right, false≢true}
use Rattle.big_atomic.proofs.Answered.{EndsAs, HasAnswered, MayEnd, answered_now, clear_step, ended_back, held_then, hold_stays, may_answer, ready_now, right_at, scanned_since}
use Rattle.big_atomic.proofs.Paid.{exchanges-append, scan_loads-append}
use Rattle.big_atomic.specs.Calls.{HoldStays, IsFullAnswer, IsQuiet}
use Rattle.big_atomic.specs.Ready.{IsReady}
use Rattle.big_atomic.specs.Turns.{exchanges, lost_steps, scan_loads}
use Rattle.cache_hash.proofs.Keyed.{changes_by, holds_by, keeps_same, keeps_then, legal_for, never_full, on_key, plain_is_reply, replies_by, tries_then}
use Rattle.cache_hash.proofs.Progress.{going_on, looks_onward, needs_more, scanned_more, wants_more}
use Rattle.cache_hash.proofs.Walking.{Cleared, cleared_part}
use Rattle.cache_hash.specs.Asking.{AreInserts, AsksFor, HasEnded, HasValue, NoneChanges, call_for, plain_reply, told_change, told_reply, would_change}
use Rattle.cache_hash.specs.Calls.{KeepsNodes, NeedsNodes, WantsNodes, value_at}
use Rattle.cache_hash.specs.Changing.{Begun, Changing, HasCome, HasMadeScan, KeepsFree, Knows, KnowsEnd, Scans, Tries}
use Rattle.cache_hash.specs.declared.asked.Change.{Change}
use Rattle.cache_hash.specs.declared.asked.Told.{Told}
use Rattle.cache_hash.specs.declared.asked.Told.TheVariants.{Full, Plain}
use Rattle.hazard_claims.specs.Scanning.{ClearsWalk}
use Rattle.seat_history.specs.Change.{is_change}
use Rattle.seat_history.specs.Contents.{Contents}
use Rattle.seat_history.specs.History.{state_at}
use Rattle.seat_history.specs.Key.{key_number}
use Rattle.seat_history.specs.declared.call.Call.{Call}
use Rattle.seat_history.specs.declared.entry.Entry.{Entry}
use Rattle.seat_history.specs.declared.key.KeyWords.{KeyWords}
use Rattle.seat_history.specs.declared.reply.Reply.{Reply}
use Rattle.seat_history.specs.declared.reply.Reply.TheVariants.{Full as FullReply}
use Rattle.step_rules.proofs.Line.Trails.{goes_on_same}
use Rattle.step_rules.specs.Claims.{BACK, HOLD, WALK}
use Rattle.step_rules.specs.History.{GoesOn, cell_of}
use Rattle.step_rules.specs.Lawful.{IsLegal, IsRight, held_by, is_full}
use Rattle.step_rules.specs.Records.{need_at}
use Rattle.step_rules.specs.SeatData.{IsSeat, ObjectData, SeatData}
use Rattle.step_rules.specs.Steps.{HasScanned, MayAnswer}
use Rattle.step_rules.specs.Views.{claim_of, cleared_view, number, reading, stock, stood_view}
use Rattle.step_rules.specs.declared.plan.Plan.{Plan}
use Rattle.step_rules.specs.declared.view.Counted.{Counted}
use Rattle.step_rules.specs.declared.view.Stand.{Stand}
use Rattle.step_rules.specs.declared.view.View.{View}

made_scan : (scanned : Bool) (due : Call → Type 0) (steps : List Counted) (look : ℕ) (before now : SeatData) → scanned ≡ true → Scans scanned due steps look before now
    → HasMadeScan due steps look before now
made_scan true due steps look before now e s = s
made_scan false due steps look before now e s = absurd (false≢true e)

-- what is known for each end
knows_value : (told : Told) (key : KeyWords) (among : Option (List ℕ) → Change → Type 0) (change : Change) (scanned : Bool) (steps : List Counted) (now : SeatData)
    → Knows key among change told scanned steps now → HasValue told (value_at now.view (length now.view.seen) key)
knows_value (Plain there) key among change scanned steps now k = k.0
knows_value (Full count free) key among change scanned steps now k = tt

knows_fits : (told : Told) (key : KeyWords) (among : Option (List ℕ) → Change → Type 0) (change : Change) (scanned : Bool) (steps : List Counted) (now : SeatData)
    → Knows key among change told scanned steps now → scanned ≡ true → (is_full (told_reply change told) ≡ true) ⊎ Tries (AreInserts key among) steps
knows_fits (Plain there) key among change scanned steps now k e = inr (k.2 e)
knows_fits (Full count free) key among change scanned steps now k e = inl refl

no_change : (told : Told) (key : KeyWords) (among : Option (List ℕ) → Change → Type 0) (change : Change) (scanned : Bool) (steps : List Counted) (now : SeatData)
    → Knows key among change told scanned steps now → false ≡ told_change change told
no_change (Plain there) key among change scanned steps now k = sym k.1
no_change (Full count free) key among change scanned steps now k = refl

-- a scan was made only where the call may change an object
scanned_never : (key : KeyWords) (among : Option (List ℕ) → Change → Type 0) (scanned : Bool) (steps : List Counted) (look : ℕ) (before now : SeatData)
    → Scans scanned (AsksFor key among) steps look before now → NoneChanges among → scan_loads steps ≡ 0
scanned_never key among false steps look before now s never = s.none
scanned_never key among true steps look before now s never =
    let c : Contents = state_at now.view.seen s.want.place in
    let asks = s.want.is_due in
    absurd (false≢true (sym (ap (is_change c) asks.3 ∙ (changes_by key asks.1 c ∙ never asks.0 asks.1 asks.2 (c.values (key_number key)))) ∙ s.want.needs.changes))

-- it stays so after looks
knows_on : {cell : ℕ} (told : Told) (key : KeyWords) (among : Option (List ℕ) → Change → Type 0) (change : Change) (scanned : Bool) (steps : List Counted) (mid now : SeatData)
    → (c : Cleared cell mid now)
    → Knows key among change told scanned steps mid → Knows key among change told scanned (steps ++ c.steps) now
knows_on (Plain there) key among change scanned steps mid now c k = (
  ap (λ (l : List Entry). (state_at l (length l)).values (key_number key)) c.seen ∙ k.0,
  k.1,
  λ e. tries_then steps c.steps (k.2 e),
)
knows_on (Full count free) key among change scanned steps mid now c k =
    let call : Call = call_for key change in
    let plan : now.view.plan ≡ mid.view.plan = ap (λ (z : View). z.plan) c.part.goes.only in
    let needs : NeedsNodes call (length mid.view.seen) count now.view = needs_more now.view (omega arith) c.part.goes.seen plan k.0 in (
      subst (λ (l : List Entry). NeedsNodes call (length l) count now.view) (sym c.seen) needs,
      k.1 ∙ (λ j. need_at (sym plan j) (sym c.seen j) (length (sym c.seen j)) call),
      k.2,
      k.3 ∙ sym (ap (λ (z : SeatData). length z.free) c.part.same),
      k.4,
    )

end_on : {shared : ObjectData} {key : KeyWords} {b : Begun shared key} {cell : ℕ} {change : Change} {told : Told} {mid now : SeatData} → KnowsEnd b cell change told mid
    → Cleared cell mid now → KnowsEnd b cell change told now
end_on {key = key} {b = b} {change = change} {told = told} {mid = mid} {now = now} k c = record {
  scanned = k.scanned;
  going = going_on k.going k.going.paced (looks_onward key (HasCome b.came) c.part) (omega arith);
  asked = subst (λ (l : List Entry). HasCome b.came ((state_at l (length l)).values (key_number key)) change) (sym c.seen) k.asked;
  knows = knows_on told key (HasCome b.came) change k.scanned k.going.steps mid now c k.knows;
}

-- and after the Walk claim's end
pub record KnowsCleared {shared : ObjectData} {key : KeyWords} (b : Begun shared key) (change : Change) (told : Told) (now : SeatData) : Type 0 where
  pub knows : KnowsEnd b (cell_of b.before.view.plan (call_for key change)) change told now
  pub walk : (claim_of WALK now.view).word ≡ 0
  pub law : IsSeat now

pub knows_cleared : {shared : ObjectData} {key : KeyWords} {b : Begun shared key} {cell : ℕ} {change : Change} {told : Told} {mid now : SeatData}
    → KnowsEnd b cell change told mid → ClearsWalk mid now → IsSeat now → KnowsCleared b change told now
knows_cleared {key = key} {b = b} {cell = cell} {change = change} {told = told} {mid = mid} {now = now} k clears law =
    let c = cleared_part cell mid now k.going.used k.going.goes.sound law.sound clears in record {
      knows = subst (λ j. KnowsEnd b j change told now) (sym (on_key key change b.before.view.plan ∙ k.going.cell_is)) (end_on k c);
      walk = c.none;
      law = law;
    }

-- THE STAND
module _ {shared : ObjectData} {key : KeyWords} {b : Begun shared key} {change : Change} {told : Told} {now : SeatData} (r : KnowsCleared b change told now) where
  abbrev before : SeatData
  before = b.before

  abbrev call : Call
  call = call_for key change

  abbrev cell : ℕ
  cell = cell_of before.view.plan call

  abbrev k : KnowsEnd b cell change told now
  k = r.knows

  abbrev law : IsSeat now
  law = r.law

  abbrev i : Changing b cell k.scanned now
  i = k.going

  abbrev seen : List Entry
  seen = now.view.seen

  abbrev reply : Reply
  reply = told_reply change told

  abbrev here : Contents
  here = state_at seen (length seen)

  plan : now.view.plan ≡ before.view.plan
  plan = ap (λ (z : View). z.plan) i.goes.only

  made : k.scanned ≡ true → HasMadeScan (AsksFor key (HasCome b.came)) i.steps i.look before now
  made e = made_scan k.scanned (AsksFor key (HasCome b.came)) i.steps i.look before now e i.scans

  -- the free nodes and the retired ones are all that the seat has
  free_all : stock now.view ≡ length now.free + length now.view.retired
  free_all = let long = law.long in omega (arith, ap (length {A = ℕ}) i.idle)

  few_retired : k.scanned ≡ true → length now.view.retired ≤ 4 * now.view.plan.seats
  few_retired e = let few = (made e).few in omega (arith, ap (λ (p : Plan). p.seats) plan)

  legal : IsLegal now.view.plan (held_by seen (number now.view) now.view.stands) call
  legal = legal_for key change now.view.plan (held_by seen (number now.view) now.view.stands) (subst (λ (p : Plan). 0 < p.buckets) (sym plan) b.some)

  right_for : (told_now : Told) → Knows key (HasCome b.came) change told_now k.scanned i.steps now
      → IsRight now.view.plan seen now.view.stands (reading (length seen) call (told_reply change told_now) now.view)
  right_for (Plain there) known = right_at now.view (length seen) call (plain_reply change there) (omega arith) legal
      (plain_is_reply change there now.view.plan (stock now.view) here (take (length seen) seen) (held_by seen (number now.view) now.view.stands) call
      (replies_by key change here (held_by seen (number now.view) now.view.stands) ∙ ap (plain_reply change) known.0))
      (sym (ap (λ (b : Bool). b && not (is_full (plain_reply change there))) (changes_by key change here ∙ (ap (would_change change) known.0 ∙ known.1))))
  right_for (Full count free) known =
      let few = few_retired known.2 in
      let all = free_all in
      let free_now = known.3 in right_at now.view (length seen) call (FullReply count free) (omega arith) legal
      (record { changes = known.0.changes; need_is = known.1; few = known.4; most = omega arith; least = omega arith })
      (sym (and_right (is_change here call) false refl))

  scanned_for : (told_now : Told) → Knows key (HasCome b.came) change told_now k.scanned i.steps now → (count free : ℕ) → told_reply change told_now ≡ FullReply count free
      → (free ≡ length now.free) × HasScanned now.view (drop now.view.since now.view.trail)
  scanned_for (Plain there) known count free e = absurd (never_full change there count free e)
  scanned_for (Full c f) known count free e = (
    (let same : f ≡ free = cc in sym same) ∙ known.3,
    scanned_since before.view now.view i.steps b.ready.law.sound (ap (λ (z : View). z.since) i.goes.only) i.goes.trail (made known.2).scan,
  )

  pub told_end : MayEnd cell i.look (length seen) call reply i.steps before now
  told_end = record {
    goes = i.goes;
    looked = i.looked;
    paced = i.paced;
    first = b.ready.law;
    on = ap (λ (p : Plan). cell_of p call) plan;
    late = i.looked.upto;
    right = right_for told k.knows;
    idle = b.ready.idle;
    idle_now = i.idle;
    full = scanned_for told k.knows;
  }

  pub may_tell : MayAnswer (length seen) call reply now
  may_tell = may_answer told_end

  -- IT STOOD
  module _ {final : SeatData} (is : EndsAs (length seen) call reply now final) (last : IsSeat final) where
    abbrev clear : List Counted
    clear = clear_step now ∷ []

    has : HasAnswered cell i.look call reply (i.steps ++ clear) (reading (length seen) call reply now.view) before final
    has = answered_now final told_end (ended_back now i.goes.sound) is last

    stays : HoldStays before final
    stays = hold_stays final told_end (ended_back now i.goes.sound) is i.hold (λ c held. holds_by key change c held)

    final_view : final.view ≡ stood_view (length seen) call reply (cleared_view BACK now.view)
    final_view = ap (λ (z : SeatData). z.view) is

    on : GoesOn seen final.view.seen
    on = subst (λ (l : List Entry). GoesOn seen l) (sym (ap (λ (z : View). z.seen) final_view)) (goes_on_same seen)

    final_plan : final.view.plan ≡ now.view.plan
    final_plan = ap (λ (z : View). z.plan) final_view

    all_scanned : scan_loads (i.steps ++ clear) ≡ scan_loads i.steps
    all_scanned = omega (arith, scan_loads-append i.steps clear)

    all_tried : exchanges (i.steps ++ clear) ≡ exchanges i.steps
    all_tried = omega (arith, exchanges-append i.steps clear)

    -- the scan
    abbrev Scanned : ℕ → ℕ → List Counted → Type 0
    Scanned look place steps = (scan_loads steps ≡ 0) ⊎ (WantsNodes (AsksFor key (HasCome b.came)) look place before final.view × (scan_loads steps ≡ 4 * before.view.plan.seats)
        × ((is_full reply ≡ true) ⊎ (0 < exchanges steps + lost_steps steps)))

    fits : k.scanned ≡ true → (is_full reply ≡ true) ⊎ Tries (AreInserts key (HasCome b.came)) i.steps
    fits = knows_fits told key (HasCome b.came) change k.scanned i.steps now k.knows

    scans_for : (scanned : Bool) → Scans scanned (AsksFor key (HasCome b.came)) i.steps i.look before now → k.scanned ≡ scanned → Scanned i.look (length seen) (i.steps ++ clear)
    scans_for false s e = inl (all_scanned ∙ s.none)
    scans_for true s e = inr (
      wants_more final.view (omega arith) on final_plan s.want,
      all_scanned ∙ s.all,
      ⊎_elim (λ full. inl full) (λ tries. inr (tries_then i.steps clear tries).tried) (fits e),
    )

    -- without an exchange and a scan
    free_kept : k.scanned ≡ false → exchanges (i.steps ++ clear) ≡ 0 → KeepsFree (AreInserts key (HasCome b.came)) before.free final.free
    free_kept e none_tried = keeps_then (i.untouched e (sym all_tried ∙ none_tried)) (keeps_same (AreInserts key (HasCome b.came)) (ap (λ (z : SeatData). z.free) is))

    kept_for : (scanned : Bool) → Scans scanned (AsksFor key (HasCome b.came)) i.steps i.look before now → k.scanned ≡ scanned
        → exchanges (i.steps ++ clear) ≡ 0 → scan_loads (i.steps ++ clear) ≡ 0
        → KeepsNodes before final
    kept_for false s e none_tried none_loaded = record { free = (free_kept e none_tried).nodes; retired = ap (λ (z : View). z.retired) final_view ∙ s.retired }
    kept_for true s e none_tried none_loaded = let all = s.all in let some = i.goes.sound.plan.seats in absurd (omega (arith, all_scanned, ap (λ (p : Plan). p.seats) plan))

    -- an insert without an exchange that isn't Full
    quiet_for : (scanned : Bool) → Scans scanned (AsksFor key (HasCome b.came)) i.steps i.look before now → k.scanned ≡ scanned
        → AreInserts key (HasCome b.came) → is_full reply ≡ false → exchanges (i.steps ++ clear) ≡ 0
        → IsQuiet (i.steps ++ clear) before final
    quiet_for false s e insert not_full none_tried = record {
      free = (free_kept e none_tried).order insert;
      retired = ap (λ (z : View). z.retired) final_view ∙ s.retired;
      none_exchanged = none_tried;
      none_scanned = all_scanned ∙ s.none;
    }
    quiet_for true s e insert not_full none_tried =
        absurd (⊎_elim (λ full. false≢true (sym not_full ∙ full)) (λ tries. let some = tries.exchanged insert in omega (arith, all_tried)) (fits e))

    -- Full
    full_for : (told_now : Told) → Knows key (HasCome b.came) change told_now k.scanned i.steps now → (count free : ℕ) → told_reply change told_now ≡ FullReply count free
        → IsFullAnswer count free (i.steps ++ clear) before final × NeedsNodes call (length seen) count final.view × (stock before.view < 4 * before.view.plan.seats + count)
    full_for (Plain there) known count free e = absurd (never_full change there count free e)
    full_for (Full c f) known count free e =
        let same_count : c ≡ count = cc in
        let same_free : f ≡ free = cc in
        let m = made known.2 in
        let few = m.few in
        let below = known.4 in
        let all = free_all in
        let stock_same : stock now.view ≡ stock before.view = i.goes.stock in
        let free_now = known.3 in (
          record {
            free_now = sym same_free ∙ (known.3 ∙ sym (ap (λ (z : SeatData). length z.free) is));
            few = omega arith;
            scan = scanned_more final.view clear (ap (λ (z : View). number z) final_view)
                (held_then (length seen) call reply (cleared_view BACK now.view) final.view final_view ∙ holds_by key change here (held_by seen (number now.view) now.view.stands))
                (ap (λ (z : View). claim_of HOLD z) final_view ∙ (ended_back now i.goes.sound).others HOLD (λ q. absurd (omega arith))) final_plan m.scan;
            retired = ap (λ (z : View). z.retired) final_view ∙ m.retired;
            few_retired = omega (arith, ap (λ (z : View). length z.retired) final_view);
          },
          subst (λ n. NeedsNodes call (length seen) n final.view) same_count (needs_more final.view (omega arith) on final_plan known.0),
          omega arith,
        )

    pub has_told : IsReady shared final × HasEnded key (HasCome b.came) change told before final
    has_told = (
      ready_now shared final b.ready told_end is last r.walk i.own stays,
      record {
        asked = subst (λ (found : Option (List ℕ)). HasCome b.came found change)
            (sym (ap (λ (s : Stand). value_at final.view s.place key) has.stand_is ∙ ap (λ (z : View). value_at z (length seen) key) final_view)) k.asked;
        ends = record {
          answered = has.answered;
          changes = ap (λ (s : Stand). s.changes) has.stand_is ∙ no_change told key (HasCome b.came) change k.scanned i.steps now k.knows;
          hold = stays;
          scans = subst (λ (z : ℕ × ℕ × List Counted). Scanned z.0 z.1 z.2) (λ j. (sym has.look_is j, (sym has.stand_is j).place, sym has.steps_are j))
              (scans_for k.scanned i.scans refl);
          kept = subst (λ (l : List Counted). exchanges l ≡ 0 → scan_loads l ≡ 0 → KeepsNodes before final) (sym has.steps_are) (kept_for k.scanned i.scans refl);
          full = λ count free e.
              subst (λ (z : Stand × List Counted). IsFullAnswer count free z.1 before final × NeedsNodes call z.0.place count final.view)
              (λ j. (sym has.stand_is j, sym has.steps_are j)) (let f = full_for told k.knows count free e in (f.0, f.1));
          short = λ count free e. (full_for told k.knows count free e).2;
        };
        value = subst (HasValue told) (sym (ap (λ (s : Stand). value_at final.view s.place key) has.stand_is ∙ ap (λ (z : View). value_at z (length seen) key) final_view))
            (knows_value told key (HasCome b.came) change k.scanned i.steps now k.knows);
        never = λ never. subst (λ (l : List Counted). (exchanges l ≡ 0) × (scan_loads l ≡ 0)) (sym has.steps_are)
            (all_tried ∙ i.never never, all_scanned ∙ scanned_never key (HasCome b.came) k.scanned i.steps i.look before now i.scans never);
        quiet = λ insert not_full. subst (λ (l : List Counted). exchanges l ≡ 0 → IsQuiet l before final) (sym has.steps_are) (quiet_for k.scanned i.scans refl insert not_full);
      },
    )
