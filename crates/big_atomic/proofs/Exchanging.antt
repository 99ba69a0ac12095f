-- An exchange of a cell's backup: won, or lost, or tried once more where only the mark was cleared.
use Rattle.std.proofs.Common.{◌≡◌, ◌≢◌, ◌∙◌, ℕ, ◌/◌, ◌≤◌, Bool, not, cond, eq-eqb, ne_eqb, List, [], ◌∷◌, ◌++◌, Some, length, drop, refl, sym, ap, subst, arith, inl}
use Rattle.big_atomic.proofs.Claimed.{none_later}
use Rattle.big_atomic.proofs.Goings.{found_at_look, goes_look, goes_lost, goes_none, goes_then, looks_at, moved_since, seen_on}
use Rattle.big_atomic.proofs.Paid.{lost-append}
use Rattle.big_atomic.specs.Calling.{Goes, HasFound, HasLost, HasWon}
use Rattle.big_atomic.specs.Installing.{HasNear}
use Rattle.big_atomic.specs.Turns.{lost_steps}
use Rattle.seat_history.specs.declared.call.Call.{Call}
use Rattle.step_rules.proofs.Line.Trails.{longer_seen}
use Rattle.step_rules.specs.Claims.{BACK, On}
use Rattle.step_rules.specs.History.{GoesOn, NoneOn}
use Rattle.step_rules.specs.Kinds.Backup.{MayExchange}
use Rattle.step_rules.specs.SeatData.{SeatData}
use Rattle.step_rules.specs.Sound.{Sound}
use Rattle.step_rules.specs.Steps.{DropsNoted, HoldsFront, Sees, Won, stepped}
use Rattle.step_rules.specs.Views.{counted, dropped_of, fresh_of, look_at, looked_view}
use Rattle.step_rules.specs.World.{has, nodes_of}
use Rattle.step_rules.specs.declared.plan.Plan.{Plan}
use Rattle.step_rules.specs.declared.view.Counted.{Counted}
use Rattle.step_rules.specs.declared.view.Kind.TheVariants.{BackupExchange}
use Rattle.step_rules.specs.declared.view.View.{View}

-- the view differs at most in what looks change
abbrev OnlyLooked : View → View → Type 0
OnlyLooked v w = w ≡ record v { seen = w.seen; look = w.look; trail = w.trail }

-- the exchange may be tried from a word with the same node, after looks alone
may_again : (reg word x node : ℕ) (call : Call) (v w : View) → OnlyLooked v w → x / 2 ≡ word / 2 → MayExchange reg word node call v → MayExchange reg x node call w
may_again reg word x node call v w only near may = subst (λ (z : View). MayExchange reg x node call z) (sym only) (record {
  back = may.back;
  claimed = may.claimed;
  stands = subst (λ (n : ℕ). On may.back n) (sym near) may.stands;
  cell = may.cell;
  mine = may.mine;
  announced = may.announced;
  guarded = may.guarded;
  on = may.on;
  there = may.there;
  changes = may.changes;
  wide = may.wide;
  own = may.own;
  once = may.once;
  linked = may.linked;
  records = may.records;
  left = may.left;
  removes = may.removes;
})

-- the word itself was found last
pub just_found : {reg word : ℕ} {v : View} → HasFound reg word v → HasNear reg word v
just_found {word = word} found = record { word = word; found = found; near = refl; fell = omega arith }

-- ONE EXCHANGE THAT FOUND ANOTHER WORD
module _ {reg word node x : ℕ} {u w : SeatData} (sees : Sees (BackupExchange reg word node) reg x u w) where
  abbrev pub tried : Counted
  tried = counted (BackupExchange reg word node) x (length w.view.seen)

  pub tried_view : w.view ≡ looked_view (BackupExchange reg word node) reg x sees.looks.log u.view
  tried_view = sees.looks.after

  pub tried_only : OnlyLooked u.view w.view
  tried_only = subst (λ (z : View). OnlyLooked u.view z) (sym tried_view) refl

  pub tried_on : GoesOn u.view.seen w.view.seen
  tried_on = seen_on sees

  pub tried_found : HasFound reg x w.view
  tried_found = found_at_look sees

  -- the same node was found
  pub near_goes : x / 2 ≡ word / 2 → Sound u.view → Sound w.view → Goes reg (Some (length u.view.seen)) (tried ∷ []) u w
  near_goes near first last = goes_look (Some (length u.view.seen)) (looks_at (eq-eqb reg reg refl) sees first last) (ap not (eq-eqb (x / 2) (word / 2) near))

  -- another one was found: the history has an entry on the cell since the last look
  pub far_changed : HasNear reg word u.view → x / 2 ≢ word / 2 → ¬ NoneOn u.view.plan reg (drop (length u.view.seen) w.view.seen)
  far_changed found far = moved_since sees found.found (λ e. far (e ∙ found.near))

  pub far_goes : HasNear reg word u.view → x / 2 ≢ word / 2 → Sound u.view → Sound w.view → Goes reg (Some (length u.view.seen)) (tried ∷ []) u w
  far_goes found far first last = goes_lost (looks_at (eq-eqb reg reg refl) sees first last) (far_changed found far)

  pub near_kept : x / 2 ≡ word / 2 → lost_steps (tried ∷ []) ≡ 0
  near_kept near = ap (λ (b : Bool). length (cond (not b) (tried ∷ []) [])) (eq-eqb (x / 2) (word / 2) near)

  pub far_lost : x / 2 ≢ word / 2 → lost_steps (tried ∷ []) ≡ 1
  far_lost far = ap (λ (b : Bool). length (cond (not b) (tried ∷ []) [])) (ne_eqb (x / 2) (word / 2) far)

-- the seat holds the same front, and the same nodes fall out
pub front_again : {reg word node x : ℕ} (call : Call) {u w : SeatData} → Sees (BackupExchange reg word node) reg x u w → HoldsFront node call u → HoldsFront node call w
front_again {node} call sees front m =
    ap (λ (z : SeatData). has z.holding m) sees.same ∙ (front m ∙ sym (ap (λ (z : View). has (nodes_of (fresh_of node call z)) m) (tried_view sees)))

pub noted_again : {reg word node x : ℕ} (call : Call) {u w : SeatData} → Sees (BackupExchange reg word node) reg x u w → DropsNoted call u → DropsNoted call w
noted_again call sees noted = ap (λ (z : View). nodes_of (drop 1 (dropped_of call z))) (tried_view sees) ∙ (noted ∙ sym (ap (λ (z : SeatData). z.noted) sees.same))

-- it won at once
pub won_first : {reg word node : ℕ} {call : Call} {u w : SeatData} → Sound u.view → Sound w.view → Won reg word node call u w → HasWon reg word node call u w
won_first {reg} {word} {u} first last won = record {
  tries = [];
  mid = u;
  found = word;
  retried = record {
    goes = goes_none reg u first;
    none_lost = refl;
    none_claimed = refl;
    none_scanned = refl;
    none_filled = refl;
    few = omega arith;
    view = refl;
    same = refl;
  };
  near = refl;
  won = won;
  sound = last;
}

-- it was lost at once
pub lost_first : {reg word node x : ℕ} {u w : SeatData} → Sound u.view → Sound w.view → HasNear reg word u.view → x / 2 ≢ word / 2 → Sees (BackupExchange reg word node) reg x u w
    → HasLost reg word x u w
lost_first {reg} {u} {w} first last found far sees =
    let one = far_lost sees far in record {
      tries = tried sees ∷ [];
      goes = far_goes sees found far first last;
      one_lost = omega arith;
      paced = record { rounds = omega arith; tries = omega arith };
      some_tried = omega arith;
      none_scanned = refl;
      none_filled = refl;
      few = omega arith;
      view = tried_only sees;
      same = sees.same;
      changed = subst (λ (p : Plan). ¬ NoneOn p reg (drop (length u.view.seen) w.view.seen)) (sym (ap (λ (z : View). z.plan) (tried_view sees))) (far_changed sees found far);
      found = tried_found sees;
      far = far;
    }

-- since a look under the seat's Back claim that finds the claim's node, the history has no entry on the cell
calm_now : {reg word node x : ℕ} {call : Call} {u w : SeatData} → Sound u.view → (may : MayExchange reg word node call u.view)
    → (sees : Sees (BackupExchange reg word node) reg x u w) → x / 2 ≡ word / 2 → NoneOn u.view.plan reg (drop (length u.view.seen) sees.looks.log)
calm_now {reg} {word} {x} {u} sound may sees near =
    let began = (sound.claims.told BACK (word / 2) may.back may.claimed (inl refl) may.stands).began in
    none_later u.view.plan reg may.back.at u.view.seen sees.looks.log began (sees.looks.rest, sees.looks.seen)
    (sees.looks.calm BACK (x / 2) may.back may.claimed (inl refl) (subst (λ (n : ℕ). On may.back n) (sym near) may.stands) may.cell refl)

-- THE MARK WAS CLEARED MEANWHILE
module _ {reg word node x : ℕ} {u m : SeatData} (first : Sound u.view) (middle : Sound m.view) (other : x ≢ word) (near : x / 2 ≡ word / 2)
    (sees : Sees (BackupExchange reg word node) reg x u m) where
  abbrev once : List Counted
  once = tried sees ∷ []

  may_retry : {call : Call} → MayExchange reg word node call u.view → MayExchange reg x node call m.view
  may_retry {call} may = may_again reg word x node call u.view m.view (tried_only sees) near may

  pub won_second : {call : Call} {w : SeatData} → Sound w.view → Won reg x node call m w → HasWon reg word node call u w
  won_second last won = record {
    tries = once;
    mid = m;
    found = x;
    retried = record {
      goes = near_goes sees near first middle;
      none_lost = near_kept sees near;
      none_claimed = refl;
      none_scanned = refl;
      none_filled = refl;
      few = omega arith;
      view = tried_only sees;
      same = sees.same ∙ ap (λ (b : Bool). record u { view = m.view; fresh = b }) (sym (ap (λ (z : SeatData). z.fresh) sees.same));
    };
    near = near;
    won = won;
    sound = last;
  }

  -- the mark can't be cleared twice, so a second loss has another node
  second_far : {call : Call} {y : ℕ} {w : SeatData} → MayExchange reg word node call u.view → HasNear reg word u.view → y ≢ x → Sees (BackupExchange reg x node) reg y m w → y / 2 ≢ x / 2
  second_far {y = y} may found ne again same =
      let low : y ≤ x = again.looks.falls (look_at reg x (length m.view.seen)) (tried_found sees) refl (calm_now middle (may_retry may) again same) in
      let fell : x ≤ found.word = sees.looks.falls (look_at reg found.word (length u.view.seen)) found.found refl (calm_now first may sees near) in
      let before = found.fell in
      absurd (omega arith)

  -- an entry since the second look is one since the first
  earlier : {y : ℕ} {w : SeatData} → Sees (BackupExchange reg x node) reg y m w → NoneOn w.view.plan reg (drop (length u.view.seen) w.view.seen)
      → NoneOn m.view.plan reg (drop (length m.view.seen) w.view.seen)
  earlier {w = w} again none = none_later m.view.plan reg (length u.view.seen) m.view.seen w.view.seen (longer_seen u.view.seen m.view.seen (tried_on sees)) (tried_on again)
      (subst (λ (p : Plan). NoneOn p reg (drop (length u.view.seen) w.view.seen)) (ap (λ (z : View). z.plan) (tried_view again)) none)

  pub lost_second : {call : Call} {y : ℕ} {w : SeatData} → MayExchange reg word node call u.view → HasNear reg word u.view → Sound w.view → y ≢ x
      → Sees (BackupExchange reg x node) reg y m w → HasLost reg word y u w
  lost_second {w = w} may found last ne again =
      let far = second_far may found ne again in
      let found_again = just_found (tried_found sees) in
      let twice : List Counted = tried again ∷ [] in
      let changed = far_changed again found_again far in
      let kept = near_kept sees near in
      let one = far_lost again far in
      record {
        tries = once ++ twice;
        goes = goes_then (near_goes sees near first middle) (far_goes again found_again far middle last);
        one_lost = omega (arith, lost-append once twice);
        paced = record { rounds = omega (arith, lost-append once twice); tries = omega (arith, lost-append once twice) };
        some_tried = omega arith;
        none_scanned = refl;
        none_filled = refl;
        few = omega arith;
        view = tried_only again ∙ ap (λ (z : View). record z { seen = w.view.seen; look = w.view.look; trail = w.view.trail }) (tried_only sees);
        same = again.same ∙ ap (λ (z : SeatData). stepped w.view z) sees.same;
        changed = λ none. changed (earlier again none);
        found = tried_found again;
        far = λ e. far (e ∙ sym near);
      }
