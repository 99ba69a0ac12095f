-- How a register is given a record: by a filled node that is installed in place of the claimed one.
use Rattle.std.proofs.Common.{◌≡◌, ◌≢◌, ◌∙◌, ℕ, ◌+◌, ◌*◌, ◌/◌, ◌<◌, true, false, List, [], ◌∷◌, ◌++◌, length, take, drop, length-append, refl, sym, ap, subst, arith, inl, inr, ⊎_elim}
use Rattle.std.proofs.lemmas.Bool.{false≢true}
use Rattle.std.proofs.lemmas.List.{take_all}
use Rattle.big_atomic.proofs.Deciding.{there_now}
use Rattle.big_atomic.proofs.Ending.{released_else}
use Rattle.big_atomic.proofs.Goings.{calling_then}
use Rattle.big_atomic.proofs.Installed.{EndsChange, LostInstall, announce_else, change_costs, change_filled, change_ready}
use Rattle.big_atomic.proofs.Installed.{change_scanned, change_tried, missed_holding, missed_install, no_lock, won_change}
use Rattle.big_atomic.proofs.Marking.{turn_begun}
use Rattle.big_atomic.proofs.Pacing.{paces_then, paces_within}
use Rattle.big_atomic.proofs.Paid.{costs_within, exchanges-append, lost-append, node_stores-append, scan_loads-append}
use Rattle.big_atomic.proofs.Preparing.{HasNodeFor}
use Rattle.big_atomic.proofs.Winning.{all_steps, has_won, won_reply, won_stays}
use Rattle.big_atomic.specs.Calling.{Costs, Paces}
use Rattle.big_atomic.specs.Calls.{ScansForWant}
use Rattle.big_atomic.specs.Giving.{Begun, HasLostTurn, HasTold, HoldsNode, Past}
use Rattle.big_atomic.specs.Installing.{HasInstalled, HasMissed, HasNear, MayInstall}
use Rattle.big_atomic.specs.Marks.{HasBegun}
use Rattle.big_atomic.specs.Turns.{exchanges, node_stores, scan_loads}
use Rattle.hazard_claims.specs.Claiming.{IsReleased}
use Rattle.hazard_claims.specs.declared.claims.Claim.TheVariants.{Back, Own}
use Rattle.node_pool.proofs.Taken.{has_added}
use Rattle.seat_history.specs.Change.{is_change}
use Rattle.seat_history.specs.Contents.{Contents}
use Rattle.seat_history.specs.History.{state_at}
use Rattle.seat_history.specs.declared.call.Call.{Call}
use Rattle.seat_history.specs.declared.entry.Entry.{Entry}
use Rattle.seat_history.specs.declared.reply.Reply.{Reply}
use Rattle.seat_history.specs.declared.words.TheConstants.{WIDTH}
use Rattle.step_rules.proofs.Numbers.Places.{at_there}
use Rattle.step_rules.proofs.Order.MayChange.{front_may}
use Rattle.step_rules.proofs.Order.RecordsTell.{register_records}
use Rattle.step_rules.proofs.Ties.Tied.{own_held}
use Rattle.step_rules.proofs.Ties.Notes.{drops_alone}
use Rattle.step_rules.proofs.World.Registers.{claim_chain, one_has, page_record}
use Rattle.step_rules.specs.Claims.{BACK, HOLD, IsClaim, WALK}
use Rattle.step_rules.specs.Fronts.{IsFront}
use Rattle.step_rules.specs.History.{NoneOn}
use Rattle.step_rules.specs.Records.{Edit, dropped_count, is_change_in, need, records_at, records_of, set}
use Rattle.step_rules.specs.SeatData.{IsSeat, ObjectData, SeatData}
use Rattle.step_rules.specs.Steps.{DropsNoted, HoldsFront}
use Rattle.step_rules.specs.Views.{claim_of, claimed_pages, claimed_records, followed, silent, words_in}
use Rattle.step_rules.specs.World.{Linked, has, link, nodes_of}
use Rattle.step_rules.specs.declared.layout.TheConstants.{NODE_WIDTH}
use Rattle.step_rules.specs.declared.view.Claim.{Claim}
use Rattle.step_rules.specs.declared.view.Counted.{Counted}
use Rattle.step_rules.specs.declared.view.Held.{Held}
use Rattle.step_rules.specs.declared.view.Stage.TheVariants.{Locked}
use Rattle.step_rules.specs.declared.view.View.{View}

module _ {shared : ObjectData} {reg : ℕ} {new : List ℕ} {done : Reply} {call : Call} {b : Begun shared reg new done call} {version word seen node : ℕ} {w : SeatData}
    (r : HasNodeFor b version word seen node w) where
  -- THE NODE IS HELD
  abbrev law : IsSeat w
  law = r.past.law

  told_now : IsClaim w.view.plan w.view.seen (claim_of BACK w.view) (word / 2)
  told_now =
      let four = law.sound.claims.four in
      law.sound.claims.told BACK (word / 2) (claim_of BACK w.view) (at_there w.view.claims BACK (silent 0) (omega arith)) (inl refl) r.claim.stands

  inside : reg < w.view.plan.registers
  inside = there_now r.past

  -- the claimed chain is one node, with the register's record
  alone : drop 1 (claimed_pages w.view) ≡ []
  alone = ap (drop 1) (claim_chain w.view.plan w.view.seen (claim_of BACK w.view) (word / 2) told_now
      (subst (λ n. n < w.view.plan.registers) (sym r.claim.cell) inside))

  records : claimed_records w.view ≡ (state_at w.view.seen (length w.view.seen)).registers reg ∷ []
  records = told_now.records ∙ ((λ i. records_at w.view.plan (take (r.claim.now_at i) w.view.seen) (r.claim.cell i))
      ∙ (ap (λ (l : List Entry). records_at w.view.plan l reg) (take_all (length w.view.seen) w.view.seen (omega arith)) ∙ register_records w.view.plan w.view.seen reg inside))

  own : has (nodes_of w.view.own) node ≡ true
  own = own_held node (nodes_of w.view.own) w.free w.holding (law.lists node) (subst (λ (l : List ℕ). has l node ≡ true) (sym r.carried.holding) (has_added [] node))

  front : IsFront node (set 0 new) w.view
  front =
      let page = page_record node (words_in w.view.own node) new r.carried.words b.gives.long in record {
        own = λ m h. subst (λ j. has (nodes_of w.view.own) j ≡ true) (one_has node m h) own;
        once = (refl, tt);
        linked = subst (λ (z : List Held). Linked (record { node = node; words = words_in w.view.own node } ∷ []) (link z 0)) (sym alone) (page.1, tt);
        records = page.0;
        whole = ap (λ (z : List Held). records_of (record { node = node; words = words_in w.view.own node } ∷ z)) alone
            ∙ (page.0 ∙ sym (ap (λ (rs : List (List ℕ)). new ∷ drop 1 rs) records));
      }

  changes_in : is_change_in (claimed_records w.view) call ≡ true
  changes_in = ap (λ (rs : List (List ℕ)). is_change_in rs call) records ∙ (b.gives.changes (state_at w.view.seen (length w.view.seen)) ∙ r.changes)

  pub give_may : MayInstall reg word node call w.view
  give_may = front_may law.sound
      (record {
        stands = r.claim.stands;
        cell = r.claim.cell;
        on = b.gives.on w.view.plan;
        there = b.gives.inside w.view.plan inside;
        changes = changes_in;
        wide = b.gives.wide;
        left = let left = b.began.left in omega (arith, ap (λ (z : View). z.changes) r.past.calling.goes.only);
        removes = let none = b.gives.removes in omega arith;
      })
      (subst (λ (e : Edit). IsFront node e w.view) (sym (b.gives.edits (claimed_records w.view))) front)

  pub give_front : HoldsFront node call w
  give_front m = ap (λ (l : List ℕ). has l m) r.carried.holding
      ∙ sym (ap (λ (e : Edit). has (nodes_of (followed w.view.own node (need (length (claimed_records w.view)) e))) m) (b.gives.edits (claimed_records w.view)))

  pub give_noted : DropsNoted call w
  give_noted = drops_alone call w (ap (λ (e : Edit). dropped_count (length (claimed_records w.view)) e) (b.gives.edits (claimed_records w.view))) (r.claim.none refl)

  pub give_near : HasNear reg word w.view
  give_near = record { word = word; found = r.claim.found; near = refl; fell = omega arith }

  pub give_unlocked : w.view.writer.stage ≢ Locked
  give_unlocked = no_lock w.view law.sound r.past.own

  -- its version was found in this turn
  pub give_begun : HasBegun reg version word w.view
  give_begun = turn_begun b.before.view w.view b.began.ready.law.sound.trail.within (ap (λ (z : View). z.since) r.past.calling.goes.only) r.past.calling.goes.trail r.turn

  -- a call that never changes anything doesn't come here
  not_never : ((c : Contents) → is_change c call ≡ false) → ⊥
  not_never never = false≢true (sym (never (state_at w.view.seen (length w.view.seen))) ∙ r.changes)

  -- THE INSTALL WAS LOST
  module _ {other : ℕ} {after : SeatData} (m : HasMissed reg word node other w after) (last : IsSeat after) where
    abbrev l : LostInstall reg w after
    l = missed_install m last

    abbrev lost_all : List Counted
    lost_all = r.past.steps ++ l.steps

    paced_lost : Paces 0 0 lost_all
    paced_lost = paces_then r.past.paced l.paced

    tried : 0 < exchanges lost_all
    tried = let some = l.some_tried in omega (arith, exchanges-append r.past.steps l.steps)

    -- the node is kept
    carried : HoldsNode node new after
    carried = record {
      holding = missed_holding m ∙ r.carried.holding;
      words = ap (λ (held : List Held). words_in held node) l.own ∙ r.carried.words;
    }

    abbrev lost_past : Past b 1 (2 * WIDTH + 13 + 4 * b.before.view.plan.seats) after
    lost_past = record {
      steps = lost_all;
      calling = calling_then r.past.calling l.goes (l.others HOLD (λ e. absurd (omega arith)));
      paced = paces_within paced_lost (omega arith);
      scans =
          let none = l.none_scanned in
          ⊎_elim (λ e. inl (omega (arith, scan_loads-append r.past.steps l.steps)))
          (λ e. let all = e.0 in inr (omega (arith, scan_loads-append r.past.steps l.steps), e.1)) r.past.scans;
      walk = ap (λ (y : Claim). y.word) (l.others WALK (λ e. absurd (omega arith))) ∙ r.past.walk;
      own = l.own_none;
      law = last;
      never = λ never. absurd (not_never never);
      filled = let filled = r.past.filled in let none = l.none_filled in omega (arith, node_stores-append r.past.steps l.steps);
      spent = λ once.
          let s = r.past.spent once in
          let none_lost = s.lost_most in
          let none_tried = s.tried_most in
          let few = s.most in
          let one = l.one_lost in
          let twice = l.twice in
          let four = l.few in
          record {
            lost_most = omega (arith, lost-append r.past.steps l.steps);
            tried_most = omega (arith, exchanges-append r.past.steps l.steps);
            most = omega (arith, length-append r.past.steps l.steps);
          };
    }

    pub lost_turn : HasLostTurn b seen node after
    lost_turn =
        let longer = l.longer in
        let is = r.seen_is in
        record {
          at = record { past = lost_past; turn = inr (tried, omega (arith, ap (length {A = ℕ}) carried.holding)) };
          carried = carried;
          tried = tried;
          paced = paced_lost;
          changes = not_never;
          late = let upto = r.past.calling.looked.upto in omega arith;
          changed = subst (λ n. ¬ NoneOn after.view.plan reg (drop n after.view.seen)) is l.changed;
          longer = omega arith;
        }

  -- THE INSTALL WON
  module _ {after final : SeatData} (i : HasInstalled reg version word node call w after) (ends : IsReleased Back after final) (last : IsSeat final) where
    walk_none : (claim_of WALK after.view).word ≡ 0
    walk_none = ap (λ (y : Claim). y.word)
        (released_else Own i.refreshed after WALK i.ends (λ e. absurd (omega arith))
        ∙ (ap (λ (z : SeatData). claim_of WALK z.view) i.marked.only.same
        ∙ (ap (λ (z : View). claim_of WALK z) i.won.won.wins.after
        ∙ (ap (λ (z : View). claim_of WALK z) i.won.retried.view ∙ announce_else node w i.announced i.announces WALK (λ e. absurd (omega arith))))))
        ∙ r.past.walk

    abbrev e : EndsChange shared reg version word node call r.past.steps b.look b.before w after after final
    e = record {
      ready = b.began.ready;
      first = b.began.ready.law;
      left = b.began.left;
      on = b.gives.on b.before.view.plan;
      keeps = b.gives.keeps;
      calling = r.past.calling;
      paced = r.past.paced;
      installed = i;
      loaded = r.turn.loaded;
      walk = inl (refl, walk_none);
      back = ends;
      last = last;
    }

    pub won_told : HasTold b done final
    won_told =
        let wc = won_change e in
        let h = has_won wc (won_reply wc b.gives.replies) in
        let all : List Counted = all_steps wc in
        let same : scan_loads all ≡ scan_loads r.past.steps = change_scanned e in
        record {
          answered = h.answered;
          look_is = h.look_is;
          hold = won_stays wc;
          ready = change_ready e;
          scans = subst (λ (l : List Counted). ScansForWant 1 done l b.before) (sym h.steps_are)
              (⊎_elim (λ q. inl (same ∙ q)) (λ q. inr (same ∙ q.0, q.1, inr (change_tried e))) r.past.scans);
          full = λ need free is. absurd (b.gives.not_full need free is);
          never = λ never. absurd (not_never never);
          filled = let filled = r.past.filled in omega (arith, ap node_stores h.steps_are, change_filled e);
          spent = λ once. subst (λ (l : List Counted). Costs 1 2 (3 * NODE_WIDTH + 4 * b.before.view.plan.seats + 16) l) (sym h.steps_are)
              (costs_within (change_costs e (r.past.spent once)) (omega arith) (omega arith) (omega arith));
        }
