-- How a call comes to hold a node with its record: a free one is taken and filled, or a lost turn kept it.
use Rattle.std.proofs.Common.{◌≡◌, ◌∙◌, ℕ, ◌+◌, ◌*◌, ◌/◌, ◌≤◌, suc, Bool, true, false, cond, List, [], ◌∷◌, ◌++◌, Option, None, Some}
use Rattle.std.proofs.Common.{unwrap_or, length, filter, append_assoc, length-append, refl, sym, ap, subst, arith, inl, inr, ⊎_elim}
use Rattle.big_atomic.proofs.Deciding.{HasRoomFor, changes_now, past_within, room_for}
use Rattle.big_atomic.proofs.Goings.{calling_then, goes_still}
use Rattle.big_atomic.proofs.Marking.{turn_more}
use Rattle.big_atomic.proofs.Pacing.{paces_then}
use Rattle.big_atomic.proofs.Paid.{AreStill, costs_then, exchanges-append, node_stores-append, scan_loads-append, still_exchanges, still_lost, still_rounds}
use Rattle.big_atomic.specs.Calling.{HasClaim, HasReady, HoldsFilled, OnlySteps}
use Rattle.big_atomic.specs.Giving.{Begun, HasDecided, HoldsNode, Past}
use Rattle.big_atomic.specs.Marks.{HasTurn}
use Rattle.big_atomic.specs.Turns.{is_node_store, node_stores, scan_loads}
use Rattle.node_pool.proofs.Taken.{has_added}
use Rattle.node_pool.specs.Pool.{IsFilled, IsTaken, store_steps}
use Rattle.seat_history.specs.Change.{is_change}
use Rattle.seat_history.specs.History.{state_at}
use Rattle.seat_history.specs.Step.{is_same}
use Rattle.seat_history.specs.declared.call.Call.{Call}
use Rattle.seat_history.specs.declared.entry.Entry.{Entry}
use Rattle.seat_history.specs.declared.reply.Reply.{Reply}
use Rattle.seat_history.specs.declared.words.TheConstants.{WIDTH}
use Rattle.step_rules.proofs.Ties.Tied.{own_held}
use Rattle.step_rules.specs.Bags.{IsWithout}
use Rattle.step_rules.specs.Claims.{BACK, HOLD, OWN, On, WALK}
use Rattle.step_rules.specs.SeatData.{IsSeat, ObjectData, SeatData}
use Rattle.step_rules.specs.Views.{claim_of, counted, look_at, stock, stored_view}
use Rattle.step_rules.specs.World.{has, nodes_of}
use Rattle.step_rules.specs.declared.view.Claim.{Claim}
use Rattle.step_rules.specs.declared.view.Counted.{Counted}
use Rattle.step_rules.specs.declared.view.Kind.TheVariants.{NodeStore}
use Rattle.step_rules.specs.declared.view.View.{View}

-- a node was taken, and filled with words
pub record Fills (node : ℕ) (words : List ℕ) (before taken now : SeatData) : Type 0 where
  pub takes : IsTaken node before taken
  pub fills : IsFilled node words taken now

pub stores_still : (n j seen : ℕ) (ws : List ℕ) → AreStill (store_steps n j ws seen)
stores_still n j seen [] = refl
stores_still n j seen (w ∷ ws) = stores_still n (suc j) seen ws

pub stores_unscanned : (n j seen : ℕ) (ws : List ℕ) → scan_loads (store_steps n j ws seen) ≡ 0
stores_unscanned n j seen [] = refl
stores_unscanned n j seen (w ∷ ws) = stores_unscanned n (suc j) seen ws

stores_length : (n j seen : ℕ) (ws : List ℕ) → length (store_steps n j ws seen) ≡ length ws
stores_length n j seen [] = refl
stores_length n j seen (w ∷ ws) = ap suc (stores_length n (suc j) seen ws)

module _ {node : ℕ} {words : List ℕ} {before taken now : SeatData} (p : Fills node words before taken now) where
  abbrev at : ℕ
  at = length before.view.seen

  abbrev first : List Counted
  first = counted (NodeStore node 0 0) 0 at ∷ []

  abbrev steps : List Counted
  steps = first ++ store_steps node 0 words at

  taken_view : taken.view ≡ stored_view node 0 0 before.view
  taken_view = ap (λ (z : SeatData). z.view) p.takes.same

  whole_view : now.view ≡ record before.view { own = now.view.own; trail = (before.view.trail ++ first) ++ store_steps node 0 words at }
  whole_view = ap (λ (z : SeatData). z.view) p.fills.same
      ∙ ap (λ (z : View). record z { own = now.view.own; trail = z.trail ++ store_steps node 0 words (length z.seen) }) taken_view

  whole_trail : now.view.trail ≡ before.view.trail ++ steps
  whole_trail = ap (λ (z : View). z.trail) whole_view ∙ append_assoc before.view.trail first (store_steps node 0 words at)

  steps_still : AreStill steps
  steps_still = stores_still node 0 at words

  held : now.holding ≡ before.holding ++ node ∷ []
  held = ap (λ (z : SeatData). z.holding) p.fills.same ∙ p.takes.holding

  free : now.free ≡ taken.free
  free = ap (λ (z : SeatData). z.free) p.fills.same

  stock_stays : IsSeat before → IsSeat now → stock now.view ≡ stock before.view
  stock_stays one last =
      let fewer = p.takes.free.length in
      let a = one.long in
      let b = last.long in
      omega (arith, ap length held, ap length free, ap (λ (z : View). length z.retired) whole_view, length-append before.holding (node ∷ []))

  pub holds_filled : (rec : List ℕ) → words ≡ rec ++ 0 ∷ [] → length rec ≡ WIDTH → IsSeat before → IsSeat now → HoldsFilled node rec before now
  holds_filled rec is wide one last = record {
    steps = steps;
    goes = λ k. goes_still k steps before now (subst (λ (z : View). OnlySteps before.view z) (sym whole_view) refl) whole_trail (ap (λ (z : View). z.seen) whole_view) steps_still
        (ap (λ (z : SeatData). z.object) p.fills.same ∙ ap (λ (z : SeatData). z.object) p.takes.same)
        (ap (λ (z : SeatData). z.first) p.fills.same ∙ ap (λ (z : SeatData). z.first) p.takes.same) (stock_stays one last) last.sound;
    looks = record { none_exchanged = still_exchanges steps steps_still; none_scanned = stores_unscanned node 0 at words };
    none_lost = still_lost steps steps_still;
    none_claimed = still_rounds steps steps_still;
    few = omega (arith, stores_length node 0 at words, ap length is, length-append rec (0 ∷ []));
    free = subst (λ (l : List ℕ). IsWithout node before.free l) (sym free) p.takes.free;
    holding = held;
    own = own_held node (nodes_of now.view.own) now.free now.holding (last.lists node) (subst (λ (l : List ℕ). has l node ≡ true) (sym held) (has_added before.holding node));
    words = p.fills.words_there ∙ is;
    view = whole_view ∙ ap (λ (t : List Counted). record before.view { own = now.view.own; trail = t }) (sym (ap (λ (z : View). z.trail) whole_view));
    noted = ap (λ (z : SeatData). z.noted) p.fills.same ∙ ap (λ (z : SeatData). z.noted) p.takes.same;
  }

-- no more steps store to a node than there are
stores_most : (a : List Counted) → node_stores a ≤ length a
stores_most [] = omega arith
stores_most (c ∷ a) = go (is_node_store c.kind) (stores_most a)
  where
    go : (b : Bool) → node_stores a ≤ length a
        → length (cond b (c ∷ filter (λ (step : Counted). is_node_store step.kind) a) (filter (λ (step : Counted). is_node_store step.kind) a)) ≤ suc (length a)
    go true rest = omega arith
    go false rest = omega arith

-- A NODE WITH THE RECORD IS HELD: what was found in the register stays
pub record HasNodeFor {shared : ObjectData} {reg : ℕ} {new : List ℕ} {done : Reply} {call : Call} (b : Begun shared reg new done call)
    (version word seen node : ℕ) (now : SeatData) : Type 0 where
  pub past : Past b 0 (2 * WIDTH + 8 + 4 * b.before.view.plan.seats) now
  pub carried : HoldsNode node new now
  pub turn : HasTurn reg version word past.steps
  pub claim : HasClaim BACK reg word now
  pub seen_is : length now.view.seen ≡ seen
  pub changes : is_change (state_at now.view.seen (length now.view.seen)) call ≡ true

module _ {shared : ObjectData} {reg : ℕ} {new : List ℕ} {done : Reply} {call : Call} {b : Begun shared reg new done call} {version word : ℕ} where
  filled_for : {seen node : ℕ} {u w : SeatData} → HasRoomFor b version word seen u → HoldsFilled node new u w → IsSeat w → HasNodeFor b version word seen node w
  filled_for {node = node} {u = u} {w = w} r f law =
      let p = r.past in
      let c = r.claim in
      let back : claim_of BACK w.view ≡ claim_of BACK u.view = ap (λ (z : View). claim_of BACK z) f.view in
      let seen_same : w.view.seen ≡ u.view.seen = ap (λ (z : View). z.seen) f.view in
      let none_tried = f.looks.none_exchanged in
      let none_claimed = f.none_claimed in
      let none_scanned = f.looks.none_scanned in
      let few = f.few in
      record {
        past = record {
          steps = p.steps ++ f.steps;
          calling = calling_then p.calling (f.goes reg) (ap (λ (z : View). claim_of HOLD z) f.view);
          paced = paces_then {mid = 1} p.paced (record { rounds = omega arith; tries = omega arith });
          scans = ⊎_elim (λ e. inl (omega (arith, scan_loads-append p.steps f.steps)))
              (λ e. let all = e.0 in inr (omega (arith, scan_loads-append p.steps f.steps), e.1)) p.scans;
          walk = ap (λ (z : View). (claim_of WALK z).word) f.view ∙ p.walk;
          own = ap (λ (z : View). (claim_of OWN z).word) f.view ∙ p.own;
          law = law;
          never = λ never. let none = p.never never in omega (arith, exchanges-append p.steps f.steps);
          filled = let unfilled = r.unfilled in omega (arith, node_stores-append p.steps f.steps, stores_most f.steps);
          spent = λ once. costs_then f.steps (p.spent once) f.none_lost f.looks.none_exchanged (omega arith);
        };
        carried = record { holding = f.holding ∙ ap (λ (l : List ℕ). l ++ node ∷ []) r.idle; words = f.words };
        turn = turn_more p.steps f.steps f.none_lost r.turn;
        claim = record {
          stands = subst (λ (y : Claim). On y (word / 2)) (sym back) c.stands;
          cell = ap (λ (y : Claim). y.cell) back ∙ c.cell;
          now_at = ap (λ (y : Claim). y.at) back ∙ (c.now_at ∙ ap (length {A = Entry}) (sym seen_same));
          found = ap (λ (z : View). z.look) f.view ∙ (c.found ∙ ap (λ (l : List Entry). Some (look_at reg word (length l))) (sym seen_same));
          none = λ is. f.noted ∙ c.none is;
        };
        seen_is = ap (length {A = Entry}) seen_same ∙ r.seen_is;
        changes = ap (λ (l : List Entry). is_change (state_at l (length l)) call) seen_same ∙ r.changes;
      }

  kept_for : {node : ℕ} {rec : List ℕ} {u : SeatData} → HasDecided b version word rec (Some node) u → is_same rec new ≡ false
      → HasNodeFor b version word (length u.view.seen) node u
  kept_for d other = record {
    past = past_within d.at.past (omega arith) (omega arith);
    carried = d.carried;
    turn = d.turn;
    claim = d.claim;
    seen_is = refl;
    changes = changes_now d other;
  }

  pub node_for : {node : ℕ} {rec : List ℕ} {u w : SeatData} (kept : Option ℕ) → HasDecided b version word rec kept u → is_same rec new ≡ false
      → HasReady kept (Some node) new u w → IsSeat w → HasNodeFor b version word (length u.view.seen) node w
  node_for None d other h law = filled_for (room_for d other h.1 h.2) h.3 law
  node_for {node = node} {rec = rec} {u = u} (Some old) d other h law =
      let same : node ≡ old = ap (λ (o : Option ℕ). unwrap_or o 0) h.0 in
      subst (λ (z : SeatData). HasNodeFor b version word (length u.view.seen) node z) (sym h.1)
      (kept_for (subst (λ n. HasDecided b version word rec (Some n) u) (sym same) d) other)
