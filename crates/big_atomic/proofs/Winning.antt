-- How a call whose exchange won is answered.
use Rattle.std.proofs.Common.{◌≡◌, ◌∙◌, ℕ, ◌+◌, ◌*◌, ◌/◌, ◌<◌, ◌≤◌, suc, zero, Bool, true, false, not, cond, eq-eqb, List, [], ◌∷◌, ◌++◌, Option, None}
use Rattle.std.proofs.Common.{length, filter, take, drop, append_assoc, length-append, refl, sym, ap, subst, arith, inl}
use Rattle.std.proofs.Math.Seq.{take-append_seam}
use Rattle.std.proofs.lemmas.Bool.{and_parts}
use Rattle.std.proofs.lemmas.List.{take-append-le}
use mathlib.Core.Option.{some}
use lib.ListN.{get_elem?}
use Rattle.big_atomic.proofs.Answered.{HasAnswered, ready_after}
use Rattle.big_atomic.proofs.Balance.{balance, removes_spent}
use Rattle.big_atomic.proofs.Ending.{EndsBy}
use Rattle.big_atomic.proofs.Goings.{calling_then, drop_parts, held_stays, looked_more}
use Rattle.big_atomic.proofs.Marking.{version_more}
use Rattle.big_atomic.proofs.Paid.{changes-append, exchanges-append, lost-append, node_stores-append, paid_kept, paid_more, paid_still, paid_then}
use Rattle.big_atomic.proofs.Paid.{rounds-append, saw_within, scan_loads-append, still_exchanges, still_lost, still_rounds}
use Rattle.big_atomic.specs.Calling.{Calling, HasWon, Costs, Paces}
use Rattle.big_atomic.specs.Calls.{HoldStays}
use Rattle.big_atomic.specs.Marks.{HasVersion, Tries}
use Rattle.big_atomic.specs.Ready.{IsReady}
use Rattle.big_atomic.specs.Turns.{TurnsArePaid, changes_on, claim_rounds, exchanges, is_exchange, is_lost, lost_steps, node_stores, scan_loads}
use Rattle.seat_history.proofs.Histories.{state_at-append}
use Rattle.seat_history.specs.Change.{is_change}
use Rattle.seat_history.specs.Contents.{Contents}
use Rattle.seat_history.specs.History.{state_at}
use Rattle.seat_history.specs.Step.{held_after, reply_to}
use Rattle.seat_history.specs.declared.call.Call.{Call}
use Rattle.seat_history.specs.declared.entry.Entry.{Entry}
use Rattle.seat_history.specs.declared.reply.Reply.{Reply}
use Rattle.step_rules.proofs.Rely.Advance.{goes_further}
use Rattle.step_rules.proofs.Numbers.Places.{at_there}
use Rattle.step_rules.proofs.Line.Records.{held_longer, held_next}
use Rattle.step_rules.proofs.Order.RecordsAt.{records_since}
use Rattle.step_rules.proofs.Line.Trails.{longer_seen}
use Rattle.step_rules.specs.Claims.{BACK, HOLD, On, OWN, WALK}
use Rattle.step_rules.specs.History.{GoesOn, cell_of}
use Rattle.step_rules.specs.Kinds.Standing.{first_look}
use Rattle.step_rules.specs.Lawful.{IsRight, held_by, is_full}
use Rattle.step_rules.specs.Records.{records_at, records_of}
use Rattle.step_rules.specs.SeatData.{IsSeat, ObjectData, SeatData}
use Rattle.step_rules.specs.Views.{changing, claim_of, claimed_records, counted, entry, number, silent, won_view}
use Rattle.step_rules.specs.declared.view.Claim.{Claim}
use Rattle.step_rules.specs.declared.view.Counted.{Counted}
use Rattle.step_rules.specs.declared.view.Kind.TheVariants.{BackupExchange}
use Rattle.step_rules.specs.declared.view.Stand.{Stand}
use Rattle.step_rules.specs.declared.view.View.{View}

-- a call on the cell k that `before` began and that `now` had come to when it tried its exchange, which won; then it refreshed the cell by the
-- version, and its claims were ended
pub record WonCall (k version word node : ℕ) (call : Call) (steps clears : List Counted) (look : ℕ) (before now after final : SeatData) : Type 0 where
  pub calling : Calling k steps look before now
  pub paced : Paces 0 1 steps
  pub won : HasWon k word node call now after
  pub ended : EndsBy clears after final
  pub loaded : HasVersion k version steps
  pub tries : Tries k node version clears
  pub first : IsSeat before
  pub last : IsSeat final
  pub idle : before.holding ≡ []
  pub left : 0 < before.view.changes
  pub on : cell_of before.view.plan call ≡ k
  pub keeps : (c : Contents) (held : Option (List ℕ)) → held_after c held call ≡ held

at_seam : {A : Type 0} (l : List A) (a : A) → get_elem? (l ++ a ∷ []) (length l) ≡ some a
at_seam [] a = refl
at_seam (x ∷ l) a = at_seam l a

-- no more steps are exchanges than there are
pub exchanges_most : (a : List Counted) → exchanges a ≤ length a
exchanges_most [] = omega arith
exchanges_most (c ∷ a) = go (is_exchange c.kind) (exchanges_most a)
  where
    go : (b : Bool) → exchanges a ≤ length a → length (cond b (c ∷ filter (λ (step : Counted). is_exchange step.kind) a) (filter (λ (step : Counted). is_exchange step.kind) a)) ≤ suc (length a)
    go true rest = omega arith
    go false rest = omega arith

-- an exchange that found the word isn't lost
found_kept : (k word node n : ℕ) → is_lost (counted (BackupExchange k word node) word n) ≡ false
found_kept k word node n = ap not (eq-eqb (word / 2) (word / 2) refl)

module _ {k version word node : ℕ} {call : Call} {steps clears : List Counted} {look : ℕ} {before now after final : SeatData}
    (w : WonCall k version word node call steps clears look before now after final) where
  abbrev mid : SeatData
  mid = w.won.mid

  abbrev log : List Entry
  log = w.won.won.wins.log

  abbrev es : List Entry
  es = log ++ entry (number mid.view) call ∷ []

  abbrev pub stand : Stand
  stand = changing log call mid.view

  abbrev exchanged : Counted
  exchanged = counted (BackupExchange k w.won.found node) w.won.found (length es)

  abbrev tail : List Counted
  tail = exchanged ∷ clears

  abbrev pub all_steps : List Counted
  all_steps = (steps ++ w.won.tries) ++ tail

  calling : Calling k (steps ++ w.won.tries) look before mid
  calling = calling_then w.calling w.won.retried.goes (ap (λ (z : View). claim_of HOLD z) w.won.retried.view)

  final_view : final.view ≡ record (won_view k w.won.found node call log mid.view) {
    seen = final.view.seen;
    look = final.view.look;
    claims = final.view.claims;
    trail = (mid.view.trail ++ exchanged ∷ []) ++ clears;
    writer = final.view.writer;
  }
  final_view = w.ended.view ∙ ap
      (λ (z : View). record z { seen = final.view.seen; look = final.view.look; claims = final.view.claims; trail = z.trail ++ clears; writer = final.view.writer }) w.won.won.wins.after

  pub won_claims : (c : ℕ) → claim_of c after.view ≡ claim_of c now.view
  won_claims c = ap (λ (z : View). claim_of c z) w.won.won.wins.after ∙ ap (λ (z : View). claim_of c z) w.won.retried.view

  mid_on : GoesOn mid.view.seen log
  mid_on = (w.won.won.wins.rest, w.won.won.wins.seen)

  plan_same : mid.view.plan ≡ before.view.plan
  plan_same = ap (λ (z : View). z.plan) calling.goes.only

  stands_are : final.view.stands ≡ before.view.stands ++ stand ∷ []
  stands_are = ap (λ (z : View). z.stands) final_view ∙ ap (λ (z : View). z.stands ++ stand ∷ []) calling.goes.only

  -- the history goes on from the call's entry
  final_on : GoesOn es final.view.seen
  final_on = subst (λ (l : List Entry). GoesOn l final.view.seen) (ap (λ (z : View). z.seen) w.won.won.wins.after) w.ended.seen

  log_on : GoesOn log final.view.seen
  log_on = (entry (number mid.view) call ∷ final_on.0, final_on.1 ∙ append_assoc log (entry (number mid.view) call ∷ []) final_on.0)

  on : GoesOn mid.view.seen final.view.seen
  on = goes_further mid.view.seen log final.view.seen log_on.0 mid_on log_on.1

  seen_on : GoesOn before.view.seen final.view.seen
  seen_on = goes_further before.view.seen mid.view.seen final.view.seen on.0 calling.goes.seen on.1

  pub won_on : GoesOn now.view.seen final.view.seen
  won_on = goes_further now.view.seen mid.view.seen final.view.seen on.0 w.won.retried.goes.seen on.1

  number_same : number mid.view ≡ number before.view
  number_same = ap (λ (z : View). number z) calling.goes.only

  pub won_plan : final.view.plan ≡ before.view.plan
  won_plan = ap (λ (z : View). z.plan) final_view ∙ plan_same

  final_numbers : final.view.numbers ≡ before.view.numbers
  final_numbers = ap (λ (z : View). z.numbers) final_view ∙ ap (λ (z : View). z.numbers) calling.goes.only

  trail_is : final.view.trail ≡ before.view.trail ++ all_steps
  trail_is = ap (λ (z : View). z.trail) final_view ∙ (append_assoc mid.view.trail (exchanged ∷ []) clears
      ∙ (ap (λ (t : List Counted). t ++ tail) calling.goes.trail ∙ append_assoc before.view.trail (steps ++ w.won.tries) tail))

  tail_kept : lost_steps tail ≡ 0
  tail_kept = ap (λ (b : Bool). length (cond b (exchanged ∷ filter is_lost clears) (filter is_lost clears))) (found_kept k w.won.found node (length es)) ∙ still_lost clears w.ended.still

  right : IsRight final.view.plan final.view.seen before.view.stands stand
  right =
      let there = subst (λ (s : List Stand). get_elem? s (length before.view.stands) ≡ some stand) (sym stands_are) (at_seam before.view.stands stand) in
      let at = w.last.sound.lawful.right (length before.view.stands) stand there in
      subst (λ (s : List Stand). IsRight final.view.plan final.view.seen s stand) (ap (take (length before.view.stands)) stands_are ∙ take-append_seam before.view.stands (stand ∷ [])) at

  -- the contents at its place are those that it found
  won_state : state_at final.view.seen (length log) ≡ state_at log (length log)
  won_state = ap (λ (l : List Entry). state_at l (length log)) log_on.1 ∙ state_at-append log log_on.0 (length log) (omega arith)

  -- which it changes
  pub won_changes : is_change (state_at log (length log)) call ≡ true
  won_changes = ap (λ (c : Contents). is_change c call) (sym won_state) ∙ (and_parts (is_change (state_at final.view.seen (length log)) call) (not (is_full stand.reply)) (sym right.changes)).0

  -- so its reply is what it is wherever it changes them
  pub won_reply : {told : Reply} → ((c : Contents) (held : Option (List ℕ)) → is_change c call ≡ true → reply_to c held call ≡ told) → stand.reply ≡ told
  won_reply replies = replies (state_at log (length log)) (held_by log (number mid.view) mid.view.stands) won_changes

  -- or what it is on the contents at its place, whatever the caller holds
  pub won_told : {told : Reply} → ((held : Option (List ℕ)) → reply_to (state_at final.view.seen (length log)) held call ≡ told) → stand.reply ≡ told
  won_told replies =
      let held : Option (List ℕ) = held_by log (number mid.view) mid.view.stands in ap (λ (c : Contents). reply_to c held call) (sym won_state) ∙ replies held

  -- and the cell had the claimed records there
  pub won_records : {n : ℕ} → On (claim_of BACK now.view) n → (claim_of BACK now.view).cell ≡ k → records_at final.view.plan (take stand.place final.view.seen) k ≡ claimed_records now.view
  won_records {n} stands cell =
      let same : claim_of BACK mid.view ≡ claim_of BACK now.view = ap (λ (z : View). claim_of BACK z) w.won.retried.view in
      let y : Claim = claim_of BACK mid.view in
      let four = calling.goes.sound.claims.four in
      let there : get_elem? mid.view.claims BACK ≡ some y = at_there mid.view.claims BACK (silent 0) (omega arith) in
      let told = calling.goes.sound.claims.told BACK n y there (inl refl) (subst (λ (z : Claim). On z n) (sym same) stands) in
      let plan : final.view.plan ≡ mid.view.plan = ap (λ (z : View). z.plan) final_view in
      let place : take (length log) final.view.seen ≡ log = ap (take (length log)) log_on.1 ∙ take-append_seam log log_on.0 in
      let longer : take y.at log ≡ take y.at mid.view.seen = ap (take y.at) mid_on.1 ∙ take-append-le y.at mid.view.seen mid_on.0 told.began in
      (λ i. records_at (plan i) (place i) k)
      ∙ (records_since mid.view.plan log y.at k (w.won.won.wins.calm y there)
      ∙ ((λ i. records_at mid.view.plan (longer i) (sym (ap (λ (z : Claim). z.cell) same ∙ cell) i))
      ∙ (sym told.records ∙ ap (λ (z : Claim). records_of z.pages) same)))

  pub won_holding : final.holding ≡ []
  won_holding = w.ended.holding ∙ w.won.won.holding

  paid : TurnsArePaid before.view.plan k (number before.view) final.view.seen None all_steps
  paid =
      let within = saw_within mid.view before.view.trail (steps ++ w.won.tries) calling.goes.sound calling.goes.trail in
      let earlier = paid_more before.view.plan k (number before.view) mid.view.seen final.view.seen None (steps ++ w.won.tries) on within calling.goes.paid in
      paid_then before.view.plan k (number before.view) final.view.seen None (steps ++ w.won.tries) tail earlier
      (paid_then before.view.plan k (number before.view) final.view.seen _ (exchanged ∷ []) clears
      (paid_kept before.view.plan k (number before.view) final.view.seen _ exchanged (found_kept k w.won.found node (length es)))
      (paid_still before.view.plan k (number before.view) final.view.seen _ clears w.ended.still))

  few : lost_steps all_steps ≤ changes_on before.view.plan k (number before.view) (drop look final.view.seen)
  few =
      let lost = lost-append (steps ++ w.won.tries) tail in
      let kept = tail_kept in
      let before_that = calling.looked.few in
      let parts = drop_parts look mid.view.seen final.view.seen calling.looked.upto on in
      let sum = ap (changes_on before.view.plan k (number before.view)) parts
      ∙ changes-append before.view.plan k (number before.view) (drop look mid.view.seen) (drop (length mid.view.seen) final.view.seen) in
      omega arith

  -- no claim round came since, and one more exchange at most
  rounds : claim_rounds all_steps ≤ lost_steps all_steps + 1
  rounds =
      let paced = w.paced.rounds in
      let none = w.won.retried.none_claimed in
      let after : claim_rounds tail ≡ 0 = still_rounds clears w.ended.still in
      omega (arith, rounds-append (steps ++ w.won.tries) tail, rounds-append steps w.won.tries, lost-append (steps ++ w.won.tries) tail, lost-append steps w.won.tries)

  tries : exchanges all_steps ≤ 2 * (lost_steps all_steps + 1)
  tries =
      let paced = w.paced.tries in
      let few = w.won.retried.few in
      let after : exchanges tail ≡ 1 = ap suc (still_exchanges clears w.ended.still) in
      omega (
        arith,
        exchanges_most w.won.tries,
        exchanges-append (steps ++ w.won.tries) tail,
        exchanges-append steps w.won.tries,
        lost-append (steps ++ w.won.tries) tail,
        lost-append steps w.won.tries,
      )

  pub won_held : held_by final.view.seen (number final.view) final.view.stands ≡ held_by before.view.seen (number before.view) before.view.stands
  won_held =
      ap (λ (z : View). held_by z.seen (number z) z.stands) final_view
      ∙ (held_next final.view.seen (number mid.view) mid.view.stands stand refl
      ∙ (w.keeps (state_at final.view.seen (length log)) (held_by final.view.seen (number mid.view) mid.view.stands)
      ∙ (held_longer mid.view on.0 final.view.seen calling.goes.sound.lawful on.1
      ∙ held_stays w.first.sound calling.goes)))

  pub has_won : {told : Reply} → stand.reply ≡ told → HasAnswered k look call told all_steps stand before final
  has_won reply = record {
    answered = record {
      stand = stand;
      steps = all_steps;
      stood = record {
        stands = stands_are;
        by = number_same;
        call = refl;
        reply = reply;
        held = ap (λ (z : View). z.numbers) calling.goes.only;
        stock = calling.goes.stock;
        trail = trail_is;
        look = look;
        looked = ap (λ (j : ℕ). first_look j all_steps) w.on ∙ looked_more k zero look (steps ++ w.won.tries) tail (omega arith) calling.looked.looked;
        from = calling.looked.from;
        after = let upto = calling.looked.upto in let longer = longer_seen mid.view.seen log mid_on in omega arith;
        right = right;
        lawful = w.last.sound.lawful;
        history = w.last.sound.history;
        seen = seen_on;
        within = let within = w.last.sound.within in omega arith;
        plan = won_plan;
        numbers = final_numbers;
        changes = let left = w.left in omega (arith, ap (λ (z : View). z.changes) final_view, ap (λ (z : View). z.changes) calling.goes.only);
        removes = removes_spent stand w.first w.last stands_are seen_on won_plan final_numbers;
      };
      nodes = record {
        object = w.ended.object ∙ (ap (λ (z : SeatData). z.object) w.won.won.same ∙ calling.goes.object);
        first = w.ended.first ∙ (ap (λ (z : SeatData). z.first) w.won.won.same ∙ calling.goes.first);
        even = balance stand w.first w.last stands_are seen_on won_plan final_numbers w.idle won_holding;
      };
      paid = paid;
      few = few;
      rounds = rounds;
      tries = tries;
      refreshed = λ _. record {
        before = steps ++ w.won.tries;
        word = w.won.found;
        node = node;
        saw = length es;
        after = clears;
        version = version;
        whole = refl;
        loaded = version_more steps w.won.tries w.won.retried.none_lost w.loaded;
        tries = w.tries;
      };
    };
    steps_are = refl;
    stand_is = refl;
    look_is = refl;
  }

  pub won_stays : HoldStays before final
  won_stays = record { claim = w.ended.hold ∙ (won_claims HOLD ∙ w.calling.hold); held = won_held }

  pub won_ready : (shared : ObjectData) → IsReady shared before → (claim_of BACK final.view).word ≡ 0 → (claim_of WALK final.view).word ≡ 0 → (claim_of OWN final.view).word ≡ 0 → IsReady shared final
  won_ready shared ready back walk own = ready_after shared before final ready
      (record {
        object = w.ended.object ∙ (ap (λ (z : SeatData). z.object) w.won.won.same ∙ (calling.goes.object ∙ ready.ours.object));
        plan = won_plan ∙ ready.ours.plan;
      })
      w.last won_holding back walk own won_stays

  -- what the call spent
  pub won_scanned : scan_loads all_steps ≡ scan_loads steps
  won_scanned =
      let none = w.won.retried.none_scanned in
      let after = w.ended.none_scanned in omega (arith, scan_loads-append (steps ++ w.won.tries) tail, scan_loads-append steps w.won.tries)

  pub won_filled : node_stores all_steps ≡ node_stores steps
  won_filled =
      let none = w.won.retried.none_filled in
      let after = w.ended.none_filled in omega (arith, node_stores-append (steps ++ w.won.tries) tail, node_stores-append steps w.won.tries)

  pub won_tried : 0 < exchanges all_steps
  won_tried = omega (arith, exchanges-append (steps ++ w.won.tries) tail)

  pub won_costs : {most : ℕ} → Costs 0 0 most steps → Costs 0 2 (most + 2 + length clears) all_steps
  won_costs costs =
      let few = w.won.retried.few in
      let none = w.won.retried.none_lost in
      let kept = tail_kept in
      let lost = costs.lost_most in
      let tried = costs.tried_most in
      let most = costs.most in
      record {
        lost_most = omega (arith, lost-append (steps ++ w.won.tries) tail, lost-append steps w.won.tries);
        tried_most = omega (
          arith,
          still_exchanges clears w.ended.still,
          exchanges_most w.won.tries,
          exchanges-append (steps ++ w.won.tries) tail,
          exchanges-append steps w.won.tries,
        );
        most = omega (arith, length-append (steps ++ w.won.tries) tail, length-append steps w.won.tries);
      }
