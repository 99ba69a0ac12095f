-- What a call that gives its register a record knows from stage to stage, and how it is answered where it changes nothing.
use Rattle.std.proofs.Common.{◌≡◌, ◌∙◌, ℕ, ◌+◌, ◌*◌, ◌/◌, ◌<◌, ◌≤◌, Bool, true, false, not, ◌&&◌, cond, List, [], ◌∷◌, ◌++◌, Option, None, Some}
use Rattle.std.proofs.Common.{length, take, refl, sym, ap, subst, arith, inl, inr, ⊎_elim}
use Rattle.std.proofs.lemmas.Bool.{and_parts, and_right}
use Rattle.big_atomic.proofs.Answered.{EndsAs, MayEnd, clear_step, ended_as, right_at}
use Rattle.big_atomic.proofs.Balance.{CostsNone, nodes_stay}
use Rattle.big_atomic.proofs.Claimed.{claim_stays, loads_length, loads_still, loads_unfilled, loads_unscanned, looks_then, read_goes, record_read}
use Rattle.big_atomic.proofs.Goings.{calling_then}
use Rattle.big_atomic.proofs.Marking.{turn_more}
use Rattle.big_atomic.proofs.Pacing.{paces_still, paces_then, paces_within}
use Rattle.big_atomic.proofs.Paid.{costs_then, costs_within, exchanges-append, node_stores-append, scan_loads-append, still_exchanges, still_lost}
use Rattle.big_atomic.proofs.Scanning.{scan_all, scan_few, scan_goes, scan_lost, scan_paced, scan_seen, scan_tried, scan_unfilled, scan_view}
use Rattle.big_atomic.specs.Calling.{Costs, HasClaim, HasRead, HasRoom, HasSeen, IsLooked}
use Rattle.big_atomic.specs.Calls.{IsFirstUnlike, IsStored, IsSwapped, ScansForWant, register_at, store_reply, swap_reply}
use Rattle.big_atomic.specs.Giving.{Agrees, AtTurn, Begun, Gives, HasClaimedNode, HasDecided, HasTold, OnlyLooked, Past}
use Rattle.big_atomic.specs.Marks.{HasTurn}
use Rattle.big_atomic.specs.Ready.{IsReady}
use Rattle.big_atomic.specs.Turns.{exchanges, node_stores}
use Rattle.big_atomic.specs.declared.answers.Stored.{Stored}
use Rattle.big_atomic.specs.declared.answers.Stored.TheVariants.{Done as StoreDone, Full as StoreFull}
use Rattle.big_atomic.specs.declared.answers.Swap.{Swap as Answer}
use Rattle.big_atomic.specs.declared.answers.Swap.TheVariants.{No as SwapNo}
use Rattle.hazard_claims.specs.Scanning.{IsScan}
use Rattle.node_pool.specs.Pool.{load_steps}
use Rattle.seat_history.proofs.Changed.{same_from_words}
use Rattle.seat_history.specs.Change.{is_change}
use Rattle.seat_history.specs.Contents.{Contents}
use Rattle.seat_history.specs.History.{state_at}
use Rattle.seat_history.specs.Step.{is_same}
use Rattle.seat_history.specs.declared.call.Call.{Call}
use Rattle.seat_history.specs.declared.call.Call.TheVariants.{Store, Swap}
use Rattle.seat_history.specs.declared.entry.Entry.{Entry}
use Rattle.seat_history.specs.declared.reply.Reply.{Reply}
use Rattle.seat_history.specs.declared.reply.Reply.TheVariants.{Done, Full, No, Yes}
use Rattle.seat_history.specs.declared.words.TheConstants.{WIDTH}
use Rattle.step_rules.proofs.Numbers.Places.{at_there}
use Rattle.step_rules.specs.Claims.{BACK, HOLD, OWN, On, WALK}
use Rattle.step_rules.specs.Lawful.{IsLegal, IsRight, held_by, is_full}
use Rattle.step_rules.specs.Records.{Edit, cost_of, gain_of}
use Rattle.step_rules.specs.SeatData.{IsOf, IsSeat, ObjectData, SeatData}
use Rattle.step_rules.specs.Views.{claim_of, look_at, number, reading, silent, stock}
use Rattle.step_rules.specs.declared.layout.TheConstants.{NODE_WIDTH}
use Rattle.step_rules.specs.declared.plan.Plan.{Plan}
use Rattle.step_rules.specs.declared.view.Claim.{Claim}
use Rattle.step_rules.specs.declared.view.Counted.{Counted}
use Rattle.step_rules.specs.declared.view.View.{View}

-- THE TWO CALLS
pub store_gives : (reg : ℕ) (new : List ℕ) → length new ≡ WIDTH → Gives reg new Done (Store reg new)
store_gives reg new wide = record {
  on = λ p. refl;
  inside = λ p inside. inside;
  may = λ held. tt;
  keeps = λ c held. refl;
  edits = λ rs. refl;
  changes = λ c. refl;
  replies = λ c held changes. refl;
  wide = wide;
  long = wide;
  removes = refl;
  not_full = λ need free e. absurd cc;
}

pub store_agrees : (reg : ℕ) (rec new : List ℕ) → Agrees reg rec new Done (Store reg new)
store_agrees reg rec new = record { changes = λ c is. ap (λ (l : List ℕ). not (is_same l new)) is; says = λ p n c log held is. refl }

pub swap_gives : (reg : ℕ) (old new : List ℕ) → length old ≡ WIDTH → length new ≡ WIDTH → Gives reg new Yes (Swap reg old new)
swap_gives reg old new old_wide wide = record {
  on = λ p. refl;
  inside = λ p inside. inside;
  may = λ held. tt;
  keeps = λ c held. refl;
  edits = λ rs. refl;
  changes = λ c. refl;
  replies = λ c held changes. ap (λ (b : Bool). cond b Yes No) (and_parts (is_same (c.registers reg) old) (not (is_same old new)) changes).0;
  wide = (old_wide, wide);
  long = wide;
  removes = refl;
  not_full = λ need free e. absurd cc;
}

pub swap_agrees : (reg : ℕ) (rec old new : List ℕ) → rec ≡ old → Agrees reg rec new Yes (Swap reg old new)
swap_agrees reg rec old new same = record {
  changes = λ c is. ap (λ (b : Bool). b && not (is_same old new)) (same_from_words (c.registers reg) old (is ∙ same)) ∙ ap (λ (l : List ℕ). not (is_same l new)) (sym same);
  says = λ p n c log held is. ap (λ (b : Bool). cond b Yes No) (same_from_words (c.registers reg) old (is ∙ same));
}

-- a swap of a record for itself never changes anything
pub swap_never : (reg : ℕ) (old new : List ℕ) → old ≡ new → (c : Contents) → is_change c (Swap reg old new) ≡ false
swap_never reg old new same c = ap (λ (b : Bool). is_same (c.registers reg) old && not b) (same_from_words old new same) ∙ and_right (is_same (c.registers reg) old) false refl

-- no node is lost by them
pub costs_none : {reg : ℕ} {new : List ℕ} {done : Reply} {call : Call} → Gives reg new done call → CostsNone call
costs_none g rs = (ap (λ (e : Edit). cost_of (length rs) e) (g.edits rs), ap (λ (e : Edit). gain_of (length rs) e) (g.edits rs))

-- the register has a record by which the call is to be decided, and no node is held any more
pub record IsThere {shared : ObjectData} {reg : ℕ} {new : List ℕ} {done : Reply} {call : Call} (b : Begun shared reg new done call)
    (rec : List ℕ) (now : SeatData) : Type 0 where
  pub at : AtTurn b 0 (WIDTH + 5) now
  pub idle : now.holding ≡ []
  pub there : register_at now.view (length now.view.seen) reg ≡ rec
  pub agrees : Agrees reg rec new done call

-- looks leave a seat idle
pub seen_idle : {reg word claims : ℕ} {before now : SeatData} → before.holding ≡ [] → HasSeen BACK reg word claims before now → now.holding ≡ []
seen_idle idle s = ap (λ (z : SeatData). z.holding) s.stays.same ∙ idle

module _ {shared : ObjectData} {reg : ℕ} {new : List ℕ} {done : Reply} {call : Call} where
  module _ {b : Begun shared reg new done call} where
    -- A CALL BEGAN WITH LOOKS
    abbrev pub first_at : {word claims lost most : ℕ} {now : SeatData} (s : HasSeen BACK reg word claims b.before now) → claims ≤ 1 → s.look ≡ b.look
        → (b.once ≡ true → Costs lost (2 * lost) most s.steps) → IsSeat now → AtTurn b lost most now
    first_at {now = now} s serves is spent law = record {
      past = record {
        steps = s.steps;
        calling = record {
          goes = s.goes None;
          looked = subst (λ (n : ℕ). IsLooked reg s.steps n b.before now) is s.looked;
          hold = s.stays.others HOLD (λ e. absurd (omega arith));
        };
        paced = paces_within s.paced serves;
        scans = inl s.looks.none_scanned;
        walk = ap (λ (y : Claim). y.word) (s.stays.others WALK (λ e. absurd (omega arith))) ∙ b.began.ready.walk;
        own = ap (λ (y : Claim). y.word) (s.stays.others OWN (λ e. absurd (omega arith))) ∙ b.began.ready.own;
        law = law;
        never = λ _. s.looks.none_exchanged;
        filled = let none = s.none_filled in omega arith;
        spent = spent;
      };
      turn = inl (record {
        looks = s.looks;
        nodes = omega (arith, ap (λ (z : SeatData). length z.free) s.stays.same, ap (length {A = ℕ}) (seen_idle b.began.ready.idle s));
        retired = s.stays.retired;
      });
    }

    pub there_now : {lost most : ℕ} {now : SeatData} → Past b lost most now → reg < now.view.plan.registers
    there_now p = subst (λ (q : Plan). reg < q.registers) (sym (ap (λ (z : View). z.plan) p.calling.goes.only ∙ b.began.ready.ours.plan)) b.began.there

    pub past_ours : {lost most : ℕ} {now : SeatData} → Past b lost most now → IsOf shared now
    past_ours p = record { object = p.calling.goes.object ∙ b.began.ready.ours.object; plan = ap (λ (z : View). z.plan) p.calling.goes.only ∙ b.began.ready.ours.plan }

    abbrev pub past_within : {lost lost' most most' : ℕ} {now : SeatData} → Past b lost most now → lost ≤ lost' → most ≤ most' → Past b lost' most' now
    past_within p low few = record {
      steps = p.steps;
      calling = p.calling;
      paced = p.paced;
      scans = p.scans;
      walk = p.walk;
      own = p.own;
      law = p.law;
      never = p.never;
      filled = p.filled;
      spent = λ once. costs_within (p.spent once) low (omega arith) few;
    }

    -- THE RECORD WAS READ
    module _ {version word : ℕ} {rec : List ℕ} {mid now : SeatData} (h : HasClaimedNode b version word mid) (r : HasRead (word / 2) rec mid now)
        (law : IsSeat now) where
      abbrev p : Past b 0 4 mid
      p = h.at.past

      abbrev loads : List Counted
      loads = load_steps (word / 2) 0 r.words (length mid.view.seen)

      pub read_view : now.view ≡ record mid.view { trail = mid.view.trail ++ loads }
      read_view = ap (λ (z : SeatData). z.view) r.read.same

      -- it is as wide as a node
      pub wide : length r.words ≡ NODE_WIDTH
      wide =
          let four = p.law.sound.claims.four in
          let at = at_there mid.view.claims BACK (silent 0) (omega arith) in
          ap length (r.read.claimed BACK (claim_of BACK mid.view) at h.claim.stands) ∙ (p.law.sound.claims.there BACK (word / 2) (claim_of BACK mid.view) at h.claim.stands).1

      pub tried : exchanges (p.steps ++ loads) ≡ exchanges p.steps
      tried = let none = still_exchanges loads (loads_still (word / 2) 0 (length mid.view.seen) r.words) in omega (arith, exchanges-append p.steps loads)

      pub read_unfilled : node_stores (p.steps ++ loads) ≡ 0
      read_unfilled = let none = h.unfilled in omega (arith, node_stores-append p.steps loads, loads_unfilled (word / 2) 0 (length mid.view.seen) r.words)

      abbrev read_past : Past b 0 (WIDTH + 5) now
      read_past = record {
        steps = p.steps ++ loads;
        calling = calling_then p.calling (read_goes reg (word / 2) r.words mid now r.read law.sound) (ap (λ (z : View). claim_of HOLD z) read_view);
        paced = paces_then p.paced (paces_still 1 loads (loads_still (word / 2) 0 (length mid.view.seen) r.words));
        scans =
            let none = loads_unscanned (word / 2) 0 (length mid.view.seen) r.words in
            ⊎_elim (λ e. inl (omega (arith, scan_loads-append p.steps loads))) (λ e. let all = e.0 in inr (omega (arith, scan_loads-append p.steps loads), e.1)) p.scans;
        walk = ap (λ (z : View). (claim_of WALK z).word) read_view ∙ p.walk;
        own = ap (λ (z : View). (claim_of OWN z).word) read_view ∙ p.own;
        law = law;
        never = λ never. tried ∙ p.never never;
        filled = omega (arith, read_unfilled);
        spent = λ once.
            let still = loads_still (word / 2) 0 (length mid.view.seen) r.words in
            costs_then loads (p.spent once) (still_lost loads still) (still_exchanges loads still) (omega (arith, wide, loads_length (word / 2) 0 (length mid.view.seen) r.words));
      }

      pub read_idle : now.holding ≡ []
      read_idle = ap (λ (z : SeatData). z.holding) r.read.same ∙ h.idle

      pub held_same : length now.free + length now.holding ≡ length mid.free + length mid.holding
      held_same = ap (λ (z : SeatData). length z.free + length z.holding) r.read.same

      abbrev pub read_at : AtTurn b 0 (WIDTH + 5) now
      read_at = record {
        past = read_past;
        turn = ⊎_elim
            (λ o. inl (record {
              looks = looks_then p.steps loads o.looks (record {
                none_exchanged = still_exchanges loads (loads_still (word / 2) 0 (length mid.view.seen) r.words);
                none_scanned = loads_unscanned (word / 2) 0 (length mid.view.seen) r.words;
              });
              nodes = held_same ∙ o.nodes;
              retired = ap (λ (z : View). z.retired) read_view ∙ o.retired;
            }))
            (λ t. let some = t.0 in let there = t.1 in inr (omega (arith, tried), omega (arith, held_same)))
            h.at.turn;
      }

      pub read_claim : HasClaim BACK reg word now
      read_claim = claim_stays r.read h.claim

      -- it is the register's at the end of what is seen
      pub read_there : register_at now.view (length now.view.seen) reg ≡ rec
      read_there = ap (λ (z : View). register_at z (length z.seen) reg) read_view ∙ (ap (λ (n : ℕ). register_at mid.view n reg) (sym h.claim.now_at)
          ∙ record_read BACK reg (word / 2) rec mid now (inl refl) (there_now p) p.law.sound h.claim.stands h.claim.cell r)

      pub decided : Agrees reg rec new done call → HasDecided b version word rec None now
      decided agrees = record {
        at = read_at;
        carried = read_idle;
        unfilled = λ _. read_unfilled;
        turn = turn_more p.steps loads (still_lost loads (loads_still (word / 2) 0 (length mid.view.seen) r.words)) h.turn;
        claim = read_claim;
        there = read_there;
        agrees = agrees;
      }

    pub legal_now : {lost most : ℕ} {now : SeatData} → Past b lost most now → IsLegal now.view.plan (held_by now.view.seen (number now.view) now.view.stands) call
    legal_now {now = now} p = record {
      there = b.gives.inside now.view.plan (there_now p);
      may = b.gives.may (held_by now.view.seen (number now.view) now.view.stands);
    }

    -- AN ANSWER
    module _ {lost most : ℕ} {now : SeatData} (t : AtTurn b lost most now) where
      pub tells : now.holding ≡ [] → (q : ℕ) (reply : Reply) → b.look ≤ q → IsRight now.view.plan now.view.seen now.view.stands (reading q call reply now.view)
          → ((need free : ℕ) → reply ≡ Full need free → ⊥) → MayEnd reg b.look q call reply t.past.steps b.before now
      tells idle q reply late right full = record {
        goes = t.past.calling.goes;
        looked = t.past.calling.looked;
        paced = t.past.paced;
        first = b.began.ready.law;
        on = b.gives.on now.view.plan;
        late = late;
        right = right;
        idle = b.began.ready.idle;
        idle_now = idle;
        full = λ need free e. absurd (full need free e);
      }

      pub told : {q : ℕ} {reply : Reply} {final : SeatData} → MayEnd reg b.look q call reply t.past.steps b.before now → ((need free : ℕ) → reply ≡ Full need free → ⊥)
          → EndsAs q call reply now final → IsSeat final → lost ≤ 1 → most < 3 * NODE_WIDTH + 4 * b.before.view.plan.seats + 16
          → (h : HasTold b reply final) × (h.answered.stand ≡ reading q call reply now.view)
      told {reply = reply} m full is law once few =
          let p = t.past in
          let e = ended_as b.began m is law p.calling.hold p.walk p.own b.gives.keeps in
          let a = e.has in
          let clear : List Counted = clear_step now ∷ [] in (
            record {
              answered = a.answered;
              look_is = a.look_is;
              hold = e.hold;
              ready = e.ready;
              scans = subst (λ (l : List Counted). ScansForWant 1 reply l b.before) (sym a.steps_are) (⊎_elim
                  (λ o. let none = o.looks.none_scanned in inl (omega (arith, scan_loads-append p.steps clear)))
                  (λ s.
                  let some = s.0 in ⊎_elim
                  (λ e. inl (omega (arith, scan_loads-append p.steps clear)))
                  (λ e. let all = e.0 in inr (omega (arith, scan_loads-append p.steps clear), e.1, inr (omega (arith, exchanges-append p.steps clear)))) p.scans)
                  t.turn);
              full = λ need free e. absurd (full need free e);
              never = λ never. ap exchanges a.steps_are ∙ (let none = p.never never in omega (arith, exchanges-append p.steps clear));
              filled = let filled = p.filled in omega (arith, ap node_stores a.steps_are, node_stores-append p.steps clear);
              spent = λ tries. subst (λ (l : List Counted). Costs 1 2 (3 * NODE_WIDTH + 4 * b.before.view.plan.seats + 16) l) (sym a.steps_are)
                  (costs_then clear (costs_within (p.spent tries) once (omega arith) (let q : most ≤ most = omega arith in q)) refl refl (omega arith));
            },
            a.stand_is,
          )

    -- the record is there already
    module _ {rec : List ℕ} {now : SeatData} (d : IsThere b rec now) (same : is_same rec new ≡ true) where
      pub end_there : MayEnd reg b.look (length now.view.seen) call done d.at.past.steps b.before now
      end_there =
          let none : is_change (state_at now.view.seen (length now.view.seen)) call ≡ false = d.agrees.changes (state_at now.view.seen (length now.view.seen)) d.there ∙ ap not same in
          tells d.at d.idle (length now.view.seen) done d.at.past.calling.looked.upto
          (right_at now.view (length now.view.seen) call done (omega arith) (legal_now d.at.past) (d.agrees.says now.view.plan (stock now.view)
          (state_at now.view.seen (length now.view.seen)) (take (length now.view.seen) now.view.seen)
          (held_by now.view.seen (number now.view) now.view.stands) d.there)
          (sym (ap (λ (c : Bool). c && not (is_full done)) none)))
          b.gives.not_full

      pub told_there : {final : SeatData} → EndsAs (length now.view.seen) call done now final → IsSeat final → HasTold b done final
      told_there is law = (told d.at end_there b.gives.not_full is law (omega arith) (omega arith)).0

-- ROOM FOR ONE NODE: what was found in the register stays
pub record HasRoomFor {shared : ObjectData} {reg : ℕ} {new : List ℕ} {done : Reply} {call : Call} (b : Begun shared reg new done call)
    (version word seen : ℕ) (now : SeatData) : Type 0 where
  pub past : Past b 0 (WIDTH + 6 + 4 * b.before.view.plan.seats) now
  pub idle : now.holding ≡ []
  pub unfilled : node_stores past.steps ≡ 0
  pub turn : HasTurn reg version word past.steps
  pub claim : HasClaim BACK reg word now
  pub seen_is : length now.view.seen ≡ seen
  pub changes : is_change (state_at now.view.seen (length now.view.seen)) call ≡ true
  pub free : 0 < length now.free

-- it would change the register
pub changes_now : {shared : ObjectData} {reg : ℕ} {new : List ℕ} {done : Reply} {call : Call} {b : Begun shared reg new done call} {version word : ℕ} {rec : List ℕ} {kept : Option ℕ}
    {u : SeatData} → HasDecided b version word rec kept u → is_same rec new ≡ false → is_change (state_at u.view.seen (length u.view.seen)) call ≡ true
changes_now {u = u} d other = d.agrees.changes (state_at u.view.seen (length u.view.seen)) d.there ∙ ap not other

module _ {shared : ObjectData} {reg : ℕ} {new : List ℕ} {done : Reply} {call : Call} {b : Begun shared reg new done call} {version word : ℕ} {rec : List ℕ} {u : SeatData}
    (d : HasDecided b version word rec None u) where
  -- where no node is free or kept, this is the call's first turn
  pub turn_first : u.free ≡ [] → OnlyLooked d.at.past.steps b.before u
  turn_first none = ⊎_elim (λ o. o) (λ t. absurd (let some = t.1 in omega (arith, ap (length {A = ℕ}) none, ap (length {A = ℕ}) d.carried))) d.at.turn

  -- a node was free already
  room_there : is_same rec new ≡ false → 0 < length u.free → HasRoomFor b version word (length u.view.seen) u
  room_there other free =
      record {
        past = past_within d.at.past (omega arith) (omega arith);
        idle = d.carried;
        unfilled = d.unfilled refl;
        turn = d.turn;
        claim = d.claim;
        seen_is = refl;
        changes = changes_now d other;
        free = free;
      }

  -- a scan freed one
  room_scanned : {w : SeatData} → is_same rec new ≡ false → u.free ≡ [] → IsScan u w → IsSeat w → 0 < length w.free
      → HasRoomFor b version word (length u.view.seen) w
  room_scanned {w} other none s law free =
      let o = turn_first none in
      let p = d.at.past in
      let scan : List Counted = s.clear ++ s.loads in
      let seats : u.view.plan.seats ≡ b.before.view.plan.seats = ap (λ (z : View). z.plan.seats) p.calling.goes.only in
      let none_before = o.looks.none_scanned in
      let unfilled : node_stores (p.steps ++ scan) ≡ 0 = omega (arith, node_stores-append p.steps scan, d.unfilled refl, scan_unfilled s p.law law) in
      let same : claim_of BACK w.view ≡ claim_of BACK u.view = s.claims BACK (λ e. absurd (omega arith)) in
      let seen : w.view.seen ≡ u.view.seen = scan_seen s p.law law in
      record {
        past = record {
          steps = p.steps ++ scan;
          calling = calling_then p.calling (scan_goes s p.law law reg) (s.claims HOLD (λ e. absurd (omega arith)));
          paced = paces_then p.paced (scan_paced s p.law law 1);
          scans = inr (
            omega (arith, scan_loads-append p.steps scan, scan_all s p.law law),
            let nodes = o.nodes in omega (arith, ap (length {A = ℕ}) none, ap (length {A = ℕ}) d.carried),
          );
          walk = s.walk_none;
          own = ap (λ (y : Claim). y.word) (s.claims OWN (λ e. absurd (omega arith))) ∙ p.own;
          law = law;
          never = λ never. let none_tried = p.never never in omega (arith, exchanges-append p.steps scan, scan_tried s p.law law);
          filled = omega arith;
          spent = λ once. costs_then scan (p.spent once) (scan_lost s p.law law) (scan_tried s p.law law) (omega (arith, scan_few s p.law law));
        };
        idle = ap (λ (z : SeatData). z.holding) s.same ∙ d.carried;
        unfilled = unfilled;
        turn = turn_more p.steps scan (scan_lost s p.law law) d.turn;
        claim = record {
          stands = subst (λ (y : Claim). On y (word / 2)) (sym same) d.claim.stands;
          cell = ap (λ (y : Claim). y.cell) same ∙ d.claim.cell;
          now_at = ap (λ (y : Claim). y.at) same ∙ (d.claim.now_at ∙ ap (length {A = Entry}) (sym seen));
          found = ap (λ (z : View). z.look) (scan_view s p.law law) ∙ (d.claim.found ∙ ap (λ (l : List Entry). Some (look_at reg word (length l))) (sym seen));
          none = λ is. ap (λ (z : SeatData). z.noted) s.same ∙ d.claim.none is;
        };
        seen_is = ap (length {A = Entry}) seen;
        changes = ap (λ (l : List Entry). is_change (state_at l (length l)) call) seen ∙ changes_now d other;
        free = free;
      }

  pub room_for : {w : SeatData} → is_same rec new ≡ false → HasRoom true u w → IsSeat w → HasRoomFor b version word (length u.view.seen) w
  room_for other r law = ⊎_elim
      (λ had. subst (λ (z : SeatData). HasRoomFor b version word (length u.view.seen) z) (sym had.1) (room_there other had.0))
      (λ made. room_scanned other made.0 made.1 law (r.some_free refl))
      r.made

-- WHAT THE CALLS PROMISE of their answers
pub stored : {shared : ObjectData} {reg : ℕ} {new : List ℕ} {b : Begun shared reg new Done (Store reg new)} {after : SeatData} (answer : Stored) → HasTold b (store_reply answer) after
    → IsStored reg new answer b.before after × IsReady shared after
stored {b} {after} answer t = (
  record {
    answered = t.answered;
    nodes = nodes_stay (costs_none b.gives) t.answered;
    hold = t.hold;
    scans = t.scans;
    full = λ need free e. (t.full need free (ap store_reply e)).0;
    enough = enough answer t;
    filled = t.filled;
  },
  t.ready,
)
  where
    enough : (a : Stored) → HasTold b (store_reply a) after → 4 * b.before.view.plan.seats < stock b.before.view → a ≡ StoreDone
    enough StoreDone h many = refl
    enough (StoreFull need free) h many = absurd (let few = (h.full need free refl).1 in omega arith)

pub swapped : {shared : ObjectData} {reg : ℕ} {old new : List ℕ} {b : Begun shared reg new Yes (Swap reg old new)} {after : SeatData} (answer : Answer) (t : HasTold b (swap_reply answer) after)
    → b.once ≡ true → (answer ≡ SwapNo → IsFirstUnlike reg old t.answered.stood.look t.answered.stand.place after.view)
    → IsSwapped reg old new answer b.before after × IsReady shared after
swapped {reg = reg} {old = old} {new = new} {b = b} answer t once unlike =
    let spent = t.spent once in (
      record {
        answered = t.answered;
        nodes = nodes_stay (costs_none b.gives) t.answered;
        hold = t.hold;
        scans = t.scans;
        no = unlike;
        full = λ need free e. (t.full need free (ap swap_reply e)).0;
        enough = λ many need free e. absurd (let few = (t.full need free (ap swap_reply e)).1 in omega arith);
        one_lost = spent.lost_most;
        twice = spent.tried_most;
        same = λ e. t.never (swap_never reg old new e);
        bound = spent.most;
        filled = t.filled;
      },
      t.ready,
    )
