-- How a call that has exchanged ends its claims.
use Rattle.std.proofs.Common.{◌≡◌, ◌≢◌, ◌∙◌, ℕ, ◌≤◌, suc, zero, true, List, [], ◌∷◌, ◌++◌, length, set, get_or, append-nil, append_assoc, refl, sym, ap, subst, arith, inl, inr}
use Rattle.std.proofs.lemmas.Bool.{false≢true}
use Rattle.std.proofs.lemmas.List.{get_or-set_other}
use mathlib.Core.Option.{some, some-injective}
use lib.ListN.{get_elem?}
use Rattle.big_atomic.proofs.Paid.{AreStill, node_stores-append, scan_loads-append, still-append}
use Rattle.big_atomic.specs.Turns.{node_stores, scan_loads}
use Rattle.hazard_claims.specs.Claiming.{IsReleased, claim_number}
use Rattle.hazard_claims.specs.Scanning.{ClearsWalk}
use Rattle.hazard_claims.specs.declared.claims.Claim.{Claim as Which}
use Rattle.hazard_claims.specs.declared.claims.Claim.TheVariants.{Walk}
use Rattle.step_rules.proofs.Line.Trails.{goes_on_same}
use Rattle.step_rules.proofs.Rely.Advance.{goes_further}
use Rattle.step_rules.specs.Claims.{HOLD, On, WALK}
use Rattle.step_rules.specs.History.{GoesOn}
use Rattle.step_rules.specs.SeatData.{IsOf, ObjectData, SeatData}
use Rattle.step_rules.specs.Views.{claim_of, cleared_view, counted, silent}
use Rattle.step_rules.specs.declared.view.Claim.{Claim}
use Rattle.step_rules.specs.declared.view.Counted.{Counted}
use Rattle.step_rules.specs.declared.view.Kind.TheVariants.{ClaimClear}
use Rattle.step_rules.specs.declared.view.View.{View}

-- by these steps claims but Hold were ended, and the cell was refreshed
pub record EndsBy (clears : List Counted) (u w : SeatData) : Type 0 where
  pub object : w.object ≡ u.object
  pub first : w.first ≡ u.first
  pub holding : w.holding ≡ u.holding
  pub view : w.view ≡ record u.view { seen = w.view.seen; look = w.view.look; claims = w.view.claims; trail = u.view.trail ++ clears; writer = w.view.writer }
  pub seen : GoesOn u.view.seen w.view.seen
  pub still : AreStill clears
  pub none_scanned : scan_loads clears ≡ 0
  pub none_filled : node_stores clears ≡ 0
  pub hold : claim_of HOLD w.view ≡ claim_of HOLD u.view

pub cleared_word : (l : List Claim) (c : ℕ) → (get_or (set l c (silent 0)) c (silent 0)).word ≡ 0
cleared_word [] c = refl
cleared_word (x ∷ l) zero = refl
cleared_word (x ∷ l) (suc c) = cleared_word l c

-- a claim was ended: its word is 0, and the others stay
pub released_word : (which : Which) (u w : SeatData) → IsReleased which u w → (claim_of (claim_number which) w.view).word ≡ 0
released_word which u w is = ap (λ (z : SeatData). (claim_of (claim_number which) z.view).word) is ∙ cleared_word u.view.claims (claim_number which)

pub released_else : (which : Which) (u w : SeatData) (c : ℕ) → IsReleased which u w → c ≢ claim_number which → claim_of c w.view ≡ claim_of c u.view
released_else which u w c is other = ap (λ (z : SeatData). claim_of c z.view) is ∙ get_or-set_other u.view.claims (claim_number which) c (silent 0) (silent 0) other

-- the seat stays of its object, and no claim stands in the word
pub released_ours : (which : Which) {shared : ObjectData} (u w : SeatData) → IsReleased which u w → IsOf shared u → IsOf shared w
released_ours which u w is of = record { object = ap (λ (z : SeatData). z.object) is ∙ of.object; plan = ap (λ (z : SeatData). z.view.plan) is ∙ of.plan }

none_stands : (l : List Claim) (c : ℕ) (y : Claim) → get_elem? (set l c (silent 0)) c ≡ some y → y.stands ≡ true → ⊥
none_stands [] c y at on = absurd cc
none_stands (x ∷ l) zero y at on = false≢true (ap (λ (z : Claim). z.stands) (some-injective (silent 0) y at) ∙ on)
none_stands (x ∷ l) (suc c) y at on = none_stands l c y at on

pub released_stands : (which : Which) (u w : SeatData) (n : ℕ) (y : Claim) → IsReleased which u w → get_elem? w.view.claims (claim_number which) ≡ some y → ¬ On y n
released_stands which u w n y is at on =
    none_stands u.view.claims (claim_number which) y (ap (λ (z : SeatData). get_elem? z.view.claims (claim_number which)) (sym is) ∙ at) on.on

abbrev pub clearing : ℕ → SeatData → List Counted
clearing c u = counted (ClaimClear c) 0 (length u.view.seen) ∷ []

pub ends_one : (which : Which) (u w : SeatData) → HOLD ≢ claim_number which → IsReleased which u w → EndsBy (clearing (claim_number which) u) u w
ends_one which u w other is =
    let view : w.view ≡ cleared_view (claim_number which) u.view = ap (λ (z : SeatData). z.view) is in
    record {
      object = ap (λ (z : SeatData). z.object) is;
      first = ap (λ (z : SeatData). z.first) is;
      holding = ap (λ (z : SeatData). z.holding) is;
      view = subst (λ (z : View). z ≡ record u.view {
        seen = z.seen;
        look = z.look;
        claims = z.claims;
        trail = u.view.trail ++ clearing
            (claim_number which) u;
        writer = z.writer;
      }) (sym view) refl;
      seen = subst (λ (z : View). GoesOn u.view.seen z.seen) (sym view) (goes_on_same u.view.seen);
      still = refl;
      none_scanned = refl;
      none_filled = refl;
      hold = released_else which u w HOLD is other;
    }

pub ends_none : (u w : SeatData) → w ≡ u → EndsBy [] u w
ends_none u w is = subst (λ (z : SeatData). EndsBy [] u z) (sym is) (record {
  object = refl;
  first = refl;
  holding = refl;
  view = ap (λ (t : List Counted). record u.view { trail = t }) (sym (append-nil u.view.trail));
  seen = goes_on_same u.view.seen;
  still = refl;
  none_scanned = refl;
  none_filled = refl;
  hold = refl;
})

pub ends_then : {a b : List Counted} {u v w : SeatData} → EndsBy a u v → EndsBy b v w → EndsBy (a ++ b) u w
ends_then {a} {b} {u} {v} {w} p q =
    let none = p.none_scanned in
    let none_then = q.none_scanned in
    let unfilled = p.none_filled in
    let unfilled_then = q.none_filled in
    record {
      object = q.object ∙ p.object;
      first = q.first ∙ p.first;
      holding = q.holding ∙ p.holding;
      view = q.view ∙ (ap (λ (z : View). record z { seen = w.view.seen; look = w.view.look; claims = w.view.claims; trail = z.trail ++ b; writer = w.view.writer }) p.view
          ∙ ap (λ (t : List Counted). record u.view { seen = w.view.seen; look = w.view.look; claims = w.view.claims; trail = t; writer = w.view.writer })
          (append_assoc u.view.trail a b));
      seen = goes_further u.view.seen v.view.seen w.view.seen q.seen.0 p.seen q.seen.1;
      still = still-append a b p.still q.still;
      none_scanned = omega (arith, scan_loads-append a b);
      none_filled = omega (arith, node_stores-append a b);
      hold = q.hold ∙ p.hold;
    }

-- the seat stays of its object where Walk is cleared
pub walk_ours : {shared : ObjectData} (u w : SeatData) → ClearsWalk u w → IsOf shared u → IsOf shared w
walk_ours {shared} u w (inl q) of = subst (IsOf shared) (sym q.0) of
walk_ours u w (inr q) of = record { object = ap (λ (z : SeatData). z.object) q ∙ of.object; plan = ap (λ (z : SeatData). z.view.plan) q ∙ of.plan }

-- Walk, where its word isn't 0
pub record EndsWalk (u w : SeatData) : Type 0 where
  pub clears : List Counted
  pub ends : EndsBy clears u w
  pub few : length clears ≤ 1
  pub none : (claim_of WALK w.view).word ≡ 0
  pub others : (c : ℕ) → c ≢ WALK → claim_of c w.view ≡ claim_of c u.view

pub ends_walk : (u w : SeatData) → ClearsWalk u w → EndsWalk u w
ends_walk u w (inl q) = record {
  clears = [];
  ends = ends_none u w q.0;
  few = omega arith;
  none = ap (λ (z : SeatData). (claim_of WALK z.view).word) q.0 ∙ q.1;
  others = λ c other. ap (λ (z : SeatData). claim_of c z.view) q.0;
}
ends_walk u w (inr q) = record {
  clears = clearing WALK u;
  ends = ends_one Walk u w (λ e. absurd (omega arith)) q;
  few = omega arith;
  none = released_word Walk u w q;
  others = λ c other. released_else Walk u w c q other;
}
