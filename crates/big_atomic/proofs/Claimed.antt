-- Looks at a register, and claims on the node that its cell names.
use Rattle.std.proofs.Common.{◌≡◌, ◌≢◌, ◌∙◌, ℕ, ◌+◌, ◌/◌, ◌^◌, ◌<◌, ◌≤◌, suc, Bool, true, false, not, cond, eqb, eq-eqb, ne_eqb, List, [], ◌∷◌, ◌++◌, Some, None}
use Rattle.std.proofs.Common.{length, take, drop, set, get_or, refl, sym, ap, subst, arith, inr, ⊎_elim}
use Rattle.std.proofs.lemmas.Bool.{cases_lt, cond-true}
use Rattle.std.proofs.lemmas.List.{drop-append-le, get_or-set_other, get_or-set_same, length-set}
use Rattle.std.proofs.Math.ListN.{drop_of_length-le}
use Rattle.std.proofs.Math.Seq.{drop-append_seam, take-append_seam}
use mathlib.Core.Option.{some}
use lib.ListN.{get_elem?}
use Rattle.big_atomic.proofs.Goings.{LooksAt, found_at_look, goes_look, goes_lost, goes_still, goes_then, looked_then, looks_at, moved_since}
use Rattle.big_atomic.proofs.Pacing.{paces_still, paces_then}
use Rattle.big_atomic.proofs.Paid.{AreStill, claim_stores-append, exchanges-append, node_stores-append, scan_loads-append, still_exchanges}
use Rattle.big_atomic.specs.Calling.{AreLooks, Goes, HasClaim, HasClaimed, HasClaimedRecord, HasFound, HasRead, HasSeen, HasTried, HasTurned, LookedOnce, OnlySteps, Stays, TurnedOnce, turn_steps}
use Rattle.big_atomic.specs.Calls.{register_at}
use Rattle.big_atomic.specs.Turns.{claim_rounds, claim_stores, is_claim_round, lost_steps, node_stores, scan_loads}
use Rattle.hazard_claims.proofs.Rechecking.{stands_told}
use Rattle.hazard_claims.specs.Claiming.{IsAnnounced, Rechecked, claim_number}
use Rattle.hazard_claims.specs.declared.claims.Claim.{Claim as Which}
use Rattle.hazard_claims.specs.declared.answers.Recheck.{Recheck as Answer}
use Rattle.hazard_claims.specs.declared.answers.Recheck.TheVariants.{Same, Other}
use Rattle.node_pool.specs.Pool.{IsRead, load_steps}
use Rattle.seat_history.specs.History.{state_at}
use Rattle.seat_history.specs.declared.entry.Entry.{Entry}
use Rattle.seat_history.specs.declared.words.TheConstants.{WIDTH}
use Rattle.step_rules.proofs.Rely.Advance.{none_on_parts}
use Rattle.step_rules.proofs.World.Contents.{wide_register}
use Rattle.step_rules.proofs.Ties.Notes.{only_stepped, only_stepped_then}
use Rattle.step_rules.proofs.Numbers.Places.{at_there}
use Rattle.step_rules.proofs.World.Registers.{claim_record}
use Rattle.step_rules.proofs.World.Sizes.{nodes_low}
use Rattle.step_rules.proofs.Line.Trails.{longer_seen}
use Rattle.step_rules.specs.Claims.{BACK, On, Tells}
use Rattle.step_rules.specs.History.{GoesOn, NoneOn}
use Rattle.step_rules.specs.Kinds.Backup.{Looks}
use Rattle.step_rules.specs.Kinds.Claiming.{Claims}
use Rattle.step_rules.specs.Layout.{nodes}
use Rattle.step_rules.specs.SeatData.{SeatData}
use Rattle.step_rules.specs.Sound.{Sound}
use Rattle.step_rules.specs.Steps.{MayLoad, Sees, stepped}
use Rattle.step_rules.specs.Views.{announced, announced_view, claim_of, claimed_view, counted, look_at, looked_view, silent, standing, stock}
use Rattle.step_rules.specs.declared.layout.TheConstants.{CLAIMS}
use Rattle.step_rules.specs.declared.plan.Plan.{Plan}
use Rattle.step_rules.specs.declared.view.Claim.{Claim}
use Rattle.step_rules.specs.declared.view.Counted.{Counted}
use Rattle.step_rules.specs.declared.view.Kind.TheVariants.{BackupLoad, ClaimStore, Recheck}
use Rattle.step_rules.specs.declared.view.View.{View}

pub stays_then : (c : ℕ) (u v w : SeatData) → Stays c u v → Stays c v w → Stays c u w
stays_then c u v w p q = record {
  same = only_stepped_then u v w p.same q.same;
  retired = q.retired ∙ p.retired;
  own = q.own ∙ p.own;
  others = λ d ne. q.others d ne ∙ p.others d ne;
}

pub looks_then : (a b : List Counted) → AreLooks a → AreLooks b → AreLooks (a ++ b)
looks_then a b p q = let x = p.none_exchanged in let y = q.none_exchanged in let z = p.none_scanned in let w = q.none_scanned in record {
  none_exchanged = omega (arith, exchanges-append a b);
  none_scanned = omega (arith, scan_loads-append a b);
}

-- the node of the word that was found last
pub node_fits : (reg word : ℕ) (v : View) → Sound v → HasFound reg word v → word / 2 < 2 ^ 32
node_fits reg word v sound found =
    let there : word / 2 < nodes v.plan = (sound.look (look_at reg word (length v.seen)) found).there in
    let low = nodes_low v.plan sound.plan in omega arith

pub tells_low : (c : ℕ) → Tells c → c < CLAIMS
tells_low c tells = ⊎_elim (λ (e : c ≡ 0). omega arith) (λ (e : c ≡ 3). omega arith) tells

-- a node that a claim stands on may be loaded
pub may_load : (c node : ℕ) (seat : SeatData) → Sound seat.view → c < CLAIMS → On (claim_of c seat.view) node → MayLoad node seat
may_load c node seat sound low on = inr (c, claim_of c seat.view, at_there seat.view.claims c (silent 0) (let four = sound.claims.four in omega arith), on)

-- an announcement of the node of the word found last, with the seat before it, after it, and after the recheck that comes then
pub record Turning (which : Which) (reg seen : ℕ) (old mid new : SeatData) : Type 0 where
  pub found : HasFound reg seen old.view
  pub tells : Tells (claim_number which)
  pub announced : IsAnnounced which (seen / 2) old mid
  pub first : Sound old.view
  pub middle : Sound mid.view
  pub last : Sound new.view

-- a claim that becomes another, and then one more
claim_else : (l : List Claim) (c d : ℕ) (x y : Claim) → d ≢ c → get_or (set (set l c x) c y) d (silent 0) ≡ get_or l d (silent 0)
claim_else l c d x y ne = get_or-set_other (set l c x) c d y (silent 0) ne ∙ get_or-set_other l c d x (silent 0) ne

claim_here : (l : List Claim) (c : ℕ) (x y : Claim) → c < length l → get_or (set (set l c x) c y) c (silent 0) ≡ y
claim_here l c x y inside = get_or-set_same (set l c x) c y (silent 0) (omega (arith, length-set l c x))

-- the lost steps of a turn
turn_lost : (c reg seen word : ℕ) (before now : SeatData) (b : Bool) → not (eqb (word / 2) (seen / 2)) ≡ b → lost_steps (turn_steps c reg seen word before now) ≡ cond b 1 0
turn_lost c reg seen word before now b e = ap (λ (z : Bool). length (cond z (counted (Recheck c reg seen) word (length now.view.seen) ∷ []) [])) e ∙ by b
  where
    by : (b : Bool) → length (cond b (counted (Recheck c reg seen) word (length now.view.seen) ∷ []) []) ≡ cond b 1 0
    by true = refl
    by false = refl

module _ (which : Which) (reg seen : ℕ) (old mid new : SeatData) (t : Turning which reg seen old mid new) where
  abbrev c : ℕ
  c = claim_number which

  abbrev announcing : Counted
  announcing = counted (ClaimStore c (seen / 2)) (seen / 2 + 1) (length old.view.seen)

  abbrev rechecking : ℕ → Counted
  rechecking word = counted (Recheck c reg seen) word (length new.view.seen)

  mid_view : mid.view ≡ announced_view c (seen / 2) old.view
  mid_view = ap (λ (z : SeatData). z.view) t.announced

  announce_goes : Goes reg (Some (length old.view.seen)) (announcing ∷ []) old mid
  announce_goes = goes_still reg (announcing ∷ []) old mid (subst (λ (z : View). OnlySteps old.view z) (sym mid_view) refl)
      (ap (λ (z : View). z.trail) mid_view) (ap (λ (z : View). z.seen) mid_view) refl
      (ap (λ (z : SeatData). z.object) t.announced) (ap (λ (z : SeatData). z.first) t.announced) (ap stock mid_view) t.middle

  turn_goes : (word : ℕ) → Goes reg (Some (length mid.view.seen)) (rechecking word ∷ []) mid new → Goes reg (Some (length old.view.seen)) (turn_steps c reg seen word old new) old new
  turn_goes word g = goes_then announce_goes g

  turn_stays : new ≡ stepped new.view mid → new.view.retired ≡ mid.view.retired → new.view.own ≡ mid.view.own → ((d : ℕ) → d ≢ c → claim_of d new.view ≡ claim_of d old.view) → Stays c old new
  turn_stays same retired own others = record {
    same = only_stepped_then old mid new (only_stepped old mid t.announced) (only_stepped mid new same);
    retired = retired ∙ ap (λ (z : View). z.retired) mid_view;
    own = own ∙ ap (λ (z : View). z.own) mid_view;
    others = others;
  }

  -- the recheck found the same node
  turned_same : (word : ℕ) → word / 2 ≡ seen / 2 → Claims c reg seen word mid.view new.view → new ≡ stepped new.view mid → HasTurned c reg seen (Same word) old new
  turned_same word near k same =
      let full : new.view ≡ claimed_view c reg seen word k.words k.pages k.log (announced_view c (seen / 2) old.view) =
      k.after ∙ ap (λ (z : View). claimed_view c reg seen word k.words k.pages k.log z) mid_view in
      let seen_is : new.view.seen ≡ k.log = ap (λ (z : View). z.seen) full in
      let inside : c < length old.view.claims = omega (arith, t.first.claims.four, tells_low c t.tells) in
      let stand : Claim = standing (word / 2) k.words reg k.pages (length k.log) in
      let here : claim_of c new.view ≡ stand = ap (λ (z : View). claim_of c z) full ∙ claim_here old.view.claims c (announced c (seen / 2) old.view) stand inside in
      let found : HasFound reg word new.view = ap (λ (z : View). z.look) full ∙ ap (λ (s : List Entry). Some (look_at reg word (length s))) (sym seen_is) in
      let kept = ap not (eq-eqb (word / 2) (seen / 2) near) in
      let look : LooksAt reg (rechecking word) mid new = record {
        only = subst (λ (z : View). OnlySteps mid.view z) (sym k.after) refl;
        trail = ap (λ (z : View). z.trail) k.after ∙ ap (λ (s : List Entry). mid.view.trail ++ counted (Recheck c reg seen) word (length s) ∷ []) (sym seen_is);
        seen = (k.rest, seen_is ∙ k.seen);
        whole = refl;
        look = eq-eqb reg reg refl;
        object = ap (λ (z : SeatData). z.object) same;
        first = ap (λ (z : SeatData). z.first) same;
        stock = ap stock k.after;
        before = t.middle;
        sound = t.last;
      } in (
        record {
          goes = turn_goes word (goes_look (Some (length mid.view.seen)) look kept);
          stays = turn_stays same (ap (λ (z : View). z.retired) k.after) (ap (λ (z : View). z.own) k.after)
              (λ d ne. ap (λ (z : View). claim_of d z) full ∙ claim_else old.view.claims c d (announced c (seen / 2) old.view) stand ne);
          found = found;
        },
        turn_lost c reg seen word old new false kept,
        record {
          stands = subst (λ (x : Claim). On x (word / 2)) (sym here) (record { on = refl; at = refl });
          cell = ap (λ (x : Claim). x.cell) here;
          now_at = ap (λ (x : Claim). x.at) here ∙ ap (λ (s : List Entry). length s) (sym seen_is);
          found = found;
          none = λ back. ap (λ (z : SeatData). z.noted) same ∙ (ap (λ (z : SeatData). z.noted) t.announced ∙ cond-true (eqb c BACK) [] old.noted (eq-eqb c BACK back));
        },
      )

  -- the recheck found another node
  turned_other : (word : ℕ) → word / 2 ≢ seen / 2 → Looks (Recheck c reg seen) reg word mid.view new.view → new ≡ stepped new.view mid → HasTurned c reg seen (Other word) old new
  turned_other word apart k same =
      let sees : Sees (Recheck c reg seen) reg word mid new = record { looks = k; same = same } in
      let full : new.view ≡ looked_view (Recheck c reg seen) reg word k.log (announced_view c (seen / 2) old.view) =
      k.after ∙ ap (λ (z : View). looked_view (Recheck c reg seen) reg word k.log z) mid_view in
      let mid_seen : mid.view.seen ≡ old.view.seen = ap (λ (z : View). z.seen) mid_view in
      let found : HasFound reg seen mid.view = ap (λ (z : View). z.look) mid_view ∙ (t.found ∙ ap (λ (s : List Entry). Some (look_at reg seen (length s))) (sym mid_seen)) in
      let moved : ¬ NoneOn mid.view.plan reg (drop (length mid.view.seen) new.view.seen) = moved_since sees found apart in (
        record {
          goes = turn_goes word (goes_lost (looks_at (eq-eqb reg reg refl) sees t.middle t.last) moved);
          stays = turn_stays same (ap (λ (z : View). z.retired) k.after) (ap (λ (z : View). z.own) k.after)
              (λ d ne. ap (λ (z : View). claim_of d z) full ∙ get_or-set_other old.view.claims c d (announced c (seen / 2) old.view) (silent 0) ne);
          found = found_at_look sees;
        },
        turn_lost c reg seen word old new true (ap not (ne_eqb (word / 2) (seen / 2) apart)),
        subst (λ (z : Plan × List Entry). ¬ NoneOn z.0 reg (drop (length z.1) new.view.seen)) (λ i. (ap (λ (z : View). z.plan) (sym k.after) i, mid_seen i)) moved,
      )

pub turned : (which : Which) (reg seen : ℕ) (answer : Answer) (old mid new : SeatData) → Turning which reg seen old mid new → Rechecked which reg seen answer mid new
    → HasTurned (claim_number which) reg seen answer old new
turned which reg seen (Same word) old mid new t r =
    turned_same which reg seen old mid new t word r.answers.0 (stands_told which reg seen word mid.view new.view t.tells r.answers.1) r.same
turned which reg seen (Other word) old mid new t r = turned_other which reg seen old mid new t word r.answers.0 r.answers.1 r.same

-- what a look alone has seen
unfoldable pub seen_first : (c reg word : ℕ) (before now : SeatData) → LookedOnce reg word before now → HasSeen c reg word 0 before now
seen_first c reg word before now f =
    let g : Goes reg None (counted (BackupLoad reg) word (length now.view.seen) ∷ []) before now = f.0 None in record {
      steps = counted (BackupLoad reg) word (length now.view.seen) ∷ [];
      look = length now.view.seen;
      goes = f.0;
      looked = record {
        looked = ap (λ (b : Bool). cond b (Some (length now.view.seen)) None) (eq-eqb reg reg refl);
        from = longer_seen before.view.seen now.view.seen g.seen;
        upto = omega arith;
        few = omega arith;
      };
      looks = record { none_exchanged = refl; none_scanned = refl };
      paced = record { rounds = omega arith; tries = omega arith };
      none_filled = refl;
      stored = λ serves. absurd (omega arith);
      stays = f.1 c;
      found = f.2;
    }

-- a turn is one claim round at most
pub turn_round : (c reg seen word : ℕ) (before now : SeatData) → claim_rounds (turn_steps c reg seen word before now) ≤ 1
turn_round c reg seen word before now = by (is_claim_round (Recheck c reg seen))
  where
    by : (b : Bool) → length (cond b (counted (Recheck c reg seen) word (length now.view.seen) ∷ []) []) ≤ 1
    by true = omega arith
    by false = omega arith

-- a claim stored among some steps
pub stored_before : (a b : List Counted) → 0 < claim_stores a → 0 < claim_stores (a ++ b)
stored_before a b some_stored = omega (arith, claim_stores-append a b)

pub stored_behind : (a b : List Counted) → 0 < claim_stores b → 0 < claim_stores (a ++ b)
stored_behind a b some_stored = omega (arith, claim_stores-append a b)

-- looks, and then one more turn, whose claim serves where no step was lost
unfoldable pub seen_further : {c reg seen word claims : ℕ} {before mid now : SeatData} → HasSeen c reg seen 0 before mid → TurnedOnce c reg seen word mid now
    → 1 ≤ lost_steps (turn_steps c reg seen word mid now) + claims → HasSeen c reg word claims before now
seen_further {c} {reg} {seen} {word} {claims} {before} {mid} {now} s t serves = record {
  steps = s.steps ++ turn_steps c reg seen word mid now;
  look = s.look;
  goes = λ found. goes_then (s.goes found) t.goes;
  looked = looked_then (s.goes None) s.looked t.goes;
  looks = looks_then s.steps (turn_steps c reg seen word mid now) s.looks (record { none_exchanged = refl; none_scanned = refl });
  paced = paces_then {mid = 0} s.paced (let one = turn_round c reg seen word mid now in record { rounds = omega arith; tries = omega arith });
  none_filled = let none = s.none_filled in omega (arith, node_stores-append s.steps (turn_steps c reg seen word mid now));
  stored = λ _. stored_behind s.steps (turn_steps c reg seen word mid now) (omega arith);
  stays = stays_then c before mid now s.stays t.stays;
  found = t.found;
}

-- a turn that found another node saw an entry more
pub lost_longer : (k n : ℕ) (p : Plan) (seen : List Entry) → ¬ NoneOn p k (drop n seen) → n < length seen
lost_longer k n p seen some_on = ⊎_elim (λ (low : n < length seen). low)
    (λ (high : length seen ≤ n). absurd (some_on (subst (λ r. NoneOn p k r) (sym (drop_of_length-le seen high)) tt))) (cases_lt n (length seen))

-- with no entry on the cell from a place on, there is none from a later one on
pub none_later : (p : Plan) (k n : ℕ) (a b : List Entry) → n ≤ length a → GoesOn a b → NoneOn p k (drop n b) → NoneOn p k (drop (length a) b)
none_later p k n a b low on none =
    let whole : drop n b ≡ drop n a ++ on.0 = ap (drop n) on.1 ∙ drop-append-le n a on.0 low in
    let later : drop (length a) b ≡ on.0 = ap (drop (length a)) on.1 ∙ drop-append_seam a on.0 in
    subst (λ r. NoneOn p k r) (sym later) (none_on_parts p k (drop n a) on.0 (subst (λ r. NoneOn p k r) whole none)).1

-- a look, and one turn
pub tried : (c reg seen : ℕ) (answer : Answer) (before mid now : SeatData) → LookedOnce reg seen before mid → HasTurned c reg seen answer mid now → HasTried c reg answer before now
unfolding seen_first seen_further
tried c reg seen (Same word) before mid now f t = (
  seen_further (seen_first c reg seen before mid f) t.0 (let none = t.1 in omega arith),
  refl,
  t.1,
  t.2,
  record {
    front = counted (BackupLoad reg) seen (length mid.view.seen) ∷ counted (ClaimStore c (seen / 2)) (seen / 2 + 1) (length mid.view.seen) ∷ [];
    look = counted (Recheck c reg seen) word (length now.view.seen);
    back = [];
    whole = refl;
    looks = eq-eqb reg reg refl;
    found = refl;
  },
)
tried c reg seen (Other word) before mid now f t =
    let s = seen_first c reg seen before mid f in (
      seen_further s t.0 (let one = t.1 in omega arith),
      refl,
      omega (arith, t.1),
      λ none. t.2 (none_later now.view.plan reg (length mid.view.seen) mid.view.seen now.view.seen (omega arith) t.0.goes.seen none),
    )

-- loads of a node's words are still steps
pub loads_still : (n j seen : ℕ) (ws : List ℕ) → AreStill (load_steps n j ws seen)
loads_still n j seen [] = refl
loads_still n j seen (w ∷ ws) = loads_still n (suc j) seen ws

pub loads_length : (n j seen : ℕ) (ws : List ℕ) → length (load_steps n j ws seen) ≡ length ws
loads_length n j seen [] = refl
loads_length n j seen (w ∷ ws) = ap suc (loads_length n (suc j) seen ws)

pub loads_unscanned : (n j seen : ℕ) (ws : List ℕ) → scan_loads (load_steps n j ws seen) ≡ 0
loads_unscanned n j seen [] = refl
loads_unscanned n j seen (w ∷ ws) = loads_unscanned n (suc j) seen ws

pub loads_unfilled : (n j seen : ℕ) (ws : List ℕ) → node_stores (load_steps n j ws seen) ≡ 0
loads_unfilled n j seen [] = refl
loads_unfilled n j seen (w ∷ ws) = loads_unfilled n (suc j) seen ws

-- a node's words were read
pub read_goes : (k node : ℕ) (words : List ℕ) (old new : SeatData) → IsRead node words old new → Sound new.view
    → Goes k (Some (length old.view.seen)) (load_steps node 0 words (length old.view.seen)) old new
read_goes k node words old new r sound =
    let e : new.view ≡ record old.view { trail = old.view.trail ++ load_steps node 0 words (length old.view.seen) } = ap (λ (z : SeatData). z.view) r.same in
    goes_still k (load_steps node 0 words (length old.view.seen)) old new (subst (λ (z : View). OnlySteps old.view z) (sym e) refl) (ap (λ (z : View). z.trail) e) (ap (λ (z : View). z.seen) e)
    (loads_still node 0 (length old.view.seen) words) (ap (λ (z : SeatData). z.object) r.same) (ap (λ (z : SeatData). z.first) r.same) (ap stock e) sound

-- the record that a claimed node was read with is the register's where the claim began to stand
pub record_read : (c reg node : ℕ) (rec : List ℕ) (mid now : SeatData) → Tells c → reg < mid.view.plan.registers → Sound mid.view → On (claim_of c mid.view) node
    → (claim_of c mid.view).cell ≡ reg → HasRead node rec mid now → register_at mid.view (claim_of c mid.view).at reg ≡ rec
record_read c reg node rec mid now tells there sound on cell r =
    let x : Claim = claim_of c mid.view in
    let at : get_elem? mid.view.claims c ≡ some x = at_there mid.view.claims c (silent 0) (omega (arith, sound.claims.four, tells_low c tells)) in
    let told = sound.claims.told c node x at tells on in
    let is : List ℕ = (state_at mid.view.seen x.at).registers reg in
    let image : x.image ≡ is ++ 0 ∷ [] =
    claim_record mid.view.plan mid.view.seen x node told (subst (λ k. k < mid.view.plan.registers) (sym cell) there) ∙ ap (λ k. (state_at mid.view.seen x.at).registers k ++ 0 ∷ []) cell in
    let wide = wide_register mid.view.plan mid.view.seen x.at reg sound.history in
    sym (r.is ∙ (ap (take WIDTH) (r.read.claimed c x at on ∙ image) ∙ (ap (λ (n : ℕ). take n (is ++ 0 ∷ [])) (sym wide) ∙ take-append_seam is (0 ∷ []))))

-- a claim and what was found stay, where a node's words are read
pub claim_stays : {c reg node word : ℕ} {words : List ℕ} {mid now : SeatData} → IsRead node words mid now → HasClaim c reg word mid → HasClaim c reg word now
claim_stays {c} {reg} {word} r h = subst (λ (z : SeatData). HasClaim c reg word z) (sym r.same)
    (record { stands = h.stands; cell = h.cell; now_at = h.now_at; found = h.found; none = h.none })

-- the claimed node's record was read
unfoldable pub claimed_read : {c reg word : ℕ} {rec : List ℕ} {before mid now : SeatData} → Tells c → reg < before.view.plan.registers
    → HasClaimed c reg word before mid → HasRead (word / 2) rec mid now → Sound now.view
    → HasClaimedRecord c reg word rec before now
claimed_read {c} {reg} {word} {rec} {before} {mid} {now} tells there h r sound =
    let s = h.0 in
    let g : Goes reg None s.steps before mid = s.goes None in
    let steps : List Counted = load_steps (word / 2) 0 r.words (length mid.view.seen) in
    let reads : Goes reg (Some (length mid.view.seen)) steps mid now = read_goes reg (word / 2) r.words mid now r.read sound in
    let still = loads_still (word / 2) 0 (length mid.view.seen) r.words in
    let same = r.read.same in
    let is = record_read c reg (word / 2) rec mid now tells (subst (λ (p : Plan). reg < p.registers) (sym (ap (λ (z : View). z.plan) g.only)) there) g.sound h.1.stands h.1.cell r in
    let claim = claim_stays r.read h.1 in (
      (
        record {
          steps = s.steps ++ steps;
          look = s.look;
          goes = λ found. goes_then (s.goes found) reads;
          looked = looked_then g s.looked reads;
          looks = looks_then s.steps steps s.looks (record { none_exchanged = still_exchanges steps still; none_scanned = loads_unscanned (word / 2) 0 (length mid.view.seen) r.words });
          paced = paces_then s.paced (paces_still 1 steps still);
          none_filled = let none = s.none_filled in omega (arith, node_stores-append s.steps steps, loads_unfilled (word / 2) 0 (length mid.view.seen) r.words);
          stored = λ serves. stored_before s.steps steps (s.stored serves);
          stays = stays_then c before mid now s.stays (record {
            same = only_stepped mid now same;
            retired = ap (λ (z : SeatData). z.view.retired) same;
            own = ap (λ (z : SeatData). z.view.own) same;
            others = λ d ne. ap (λ (z : SeatData). claim_of d z.view) same;
          });
          found = claim.found;
        },
        claim,
      ),
      ap (λ (z : SeatData). register_at z.view (length z.view.seen) reg) same ∙ (ap (λ n. register_at mid.view n reg) (sym h.1.now_at) ∙ is),
    )
