-- A scan in the middle of a call, whose Back claim stands.
use Rattle.std.proofs.Common.{◌≡◌, ◌≢◌, ◌∙◌, ℕ, ◌+◌, ◌*◌, ◌≤◌, suc, zero, true, not, ◌&&◌, cond, List, [], ◌∷◌, ◌++◌, Some}
use Rattle.std.proofs.Common.{length, filter, append_assoc, append-nil, length-append, refl, sym, ap, subst, arith, ◌⊎◌, inl, inr, ⊎_elim}
use Rattle.std.proofs.lemmas.List.Filters.{length-filter_both}
use Rattle.big_atomic.proofs.Goings.{goes_still}
use Rattle.big_atomic.proofs.Pacing.{paces_still}
use Rattle.big_atomic.proofs.Paid.{AreStill, all_still, node_stores-append, scan_loads-append, still, still-append, still_exchanges, still_lost}
use Rattle.big_atomic.specs.Calling.{Goes, OnlySteps, Paces}
use Rattle.big_atomic.specs.Turns.{exchanges, is_node_store, is_scan_load, lost_steps, node_stores, scan_loads}
use Rattle.hazard_claims.specs.Scanning.{IsScan, names}
use Rattle.step_rules.specs.Claims.{BACK, HOLD, OWN, On, WALK}
use Rattle.step_rules.specs.Layout.{claim_at}
use Rattle.step_rules.specs.Lawful.{held_by}
use Rattle.step_rules.specs.SeatData.{IsHolding, IsSeat, SeatData}
use Rattle.step_rules.specs.Steps.{FindsOwnWords, HasScanned, found_at, kinds_of, scan_kinds, stood_at}
use Rattle.step_rules.specs.Views.{claim_of, counted, number, stock}
use Rattle.step_rules.specs.declared.layout.TheConstants.{CLAIMS}
use Rattle.step_rules.specs.declared.plan.Plan.{Plan}
use Rattle.step_rules.specs.declared.view.Claim.{Claim}
use Rattle.step_rules.specs.declared.view.Counted.{Counted}
use Rattle.step_rules.specs.declared.view.Kind.{Kind}
use Rattle.step_rules.specs.declared.view.Kind.TheVariants.{ClaimClear, ScanLoad}
use Rattle.step_rules.specs.declared.view.View.{View}

-- the loads of a scan
pub record AreLoads (n : ℕ) (loads : List Counted) : Type 0 where
  pub still : AreStill loads
  pub all : scan_loads loads ≡ n
  pub none_filled : node_stores loads ≡ 0
  pub long : length loads ≡ n

pub loads_are : (w n : ℕ) (loads : List Counted) → kinds_of loads ≡ scan_kinds w n → AreLoads n loads
loads_are w zero [] e = record { still = refl; all = refl; none_filled = refl; long = refl }
loads_are w zero (c ∷ r) e = absurd cc
loads_are w (suc n) [] e = absurd cc
loads_are w (suc n) (c ∷ r) e =
    let head : c.kind ≡ ScanLoad w = cc in
    let rest : kinds_of r ≡ scan_kinds (suc w) n = cc in
    let l = loads_are (suc w) n r rest in record {
      still = ap (λ (k : Kind). still k && all_still r) head ∙ l.still;
      all = ap (λ (k : Kind). length (cond (is_scan_load k) (c ∷ filter (λ (step : Counted). is_scan_load step.kind) r) (filter (λ (step : Counted). is_scan_load step.kind) r))) head ∙ ap suc l.all;
      none_filled =
          let later = filter (λ (step : Counted). is_node_store step.kind) r in
          ap (λ (k : Kind). length (cond (is_node_store k) (c ∷ later) later)) head ∙ l.none_filled;
      long = ap suc l.long;
    }

clear_is : (n : ℕ) (clear : List Counted) → (clear ≡ []) ⊎ (clear ≡ counted (ClaimClear WALK) 0 n ∷ []) → AreStill clear × (scan_loads clear ≡ 0) × (length clear ≤ 1)
clear_is n clear e = ⊎_elim
    (λ (none : clear ≡ []). subst (λ (l : List Counted). AreStill l × (scan_loads l ≡ 0) × (length l ≤ 1)) (sym none) (refl, refl, omega arith))
    (λ (one : clear ≡ counted (ClaimClear WALK) 0 n ∷ []). subst (λ (l : List Counted). AreStill l × (scan_loads l ≡ 0) × (length l ≤ 1)) (sym one) (refl, refl, omega arith))
    e

-- the held record and its claim stay
abbrev pub holding_stays : (words : List ℕ) (v w : View) → held_by w.seen (number w) w.stands ≡ held_by v.seen (number v) v.stands → claim_of HOLD w ≡ claim_of HOLD v
    → IsHolding words v → IsHolding words w
holding_stays words v w held claim h = record {
  held = held ∙ h.held;
  node = h.node;
  stands = subst (λ (y : Claim). On y h.node) (sym claim) h.stands;
  image = ap (λ (y : Claim). y.image) claim ∙ h.image;
}

module _ {u w : SeatData} (s : IsScan u w) (first : IsSeat u) (last : IsSeat w) where
  abbrev pub steps : List Counted
  steps = s.clear ++ s.loads

  loads : AreLoads (CLAIMS * u.view.plan.seats) s.loads
  loads = loads_are 0 (CLAIMS * u.view.plan.seats) s.loads s.kinds

  pub scan_view : w.view ≡ record u.view { own = w.view.own; retired = w.view.retired; trail = w.view.trail; claims = w.view.claims; scan = w.view.scan }
  scan_view = ap (λ (z : SeatData). z.view) s.same

  only : OnlySteps u.view w.view
  only = subst (λ (z : View). OnlySteps u.view z) (sym scan_view) refl

  steps_still : AreStill steps
  steps_still = still-append s.clear s.loads (clear_is (length u.view.seen) s.clear s.cleared).0 loads.still

  pub scan_lost : lost_steps steps ≡ 0
  scan_lost = still_lost steps steps_still

  pub scan_tried : exchanges steps ≡ 0
  scan_tried = still_exchanges steps steps_still

  pub scan_paced : (claims : ℕ) → Paces claims claims steps
  scan_paced claims = paces_still claims steps steps_still

  pub scan_unfilled : node_stores steps ≡ 0
  scan_unfilled =
      let clears = ⊎_elim (λ (none : s.clear ≡ []). ap node_stores none) (λ one. ap node_stores one) s.cleared in
      let none = loads.none_filled in
      omega (arith, node_stores-append s.clear s.loads)

  pub scan_all : scan_loads steps ≡ 4 * u.view.plan.seats
  scan_all = let none = (clear_is (length u.view.seen) s.clear s.cleared).1 in let all = loads.all in omega (arith, scan_loads-append s.clear s.loads)

  pub scan_few : length steps ≤ 4 * u.view.plan.seats + 1
  scan_few = let few = (clear_is (length u.view.seen) s.clear s.cleared).2 in let long = loads.long in omega (arith, length-append s.clear s.loads)

  pub scan_seen : w.view.seen ≡ u.view.seen
  scan_seen = ap (λ (z : View). z.seen) scan_view

  pub scan_goes : (k : ℕ) → Goes k (Some (length u.view.seen)) steps u w
  scan_goes k = goes_still k steps u w only s.trail scan_seen steps_still (ap (λ (z : SeatData). z.object) s.same) (ap (λ (z : SeatData). z.first) s.same) nodes last.sound
    where
      nodes : stock w.view ≡ stock u.view
      nodes =
          let both = length-filter_both (λ (n : ℕ). names n s.loads) (λ (n : ℕ). not (names n s.loads)) (λ n. refl) u.view.retired in
          let a = first.long in
          let b = last.long in
          omega (arith, ap length s.free, ap length s.retired, length-append u.free (filter (λ (n : ℕ). not (names n s.loads)) u.view.retired), ap (λ (z : SeatData). length z.holding) s.same)

  -- it is a whole one, after these steps
  abbrev pub scanned_now : (a : List Counted) → FindsOwnWords w.view s.loads → HasScanned w.view (a ++ steps)
  scanned_now a words = record {
    front = a ++ s.clear;
    loads = s.loads;
    back = [];
    whole = sym (append_assoc a s.clear s.loads) ∙ ap (λ (l : List Counted). (a ++ s.clear) ++ l) (sym (append-nil s.loads));
    kinds = s.kinds ∙ ap (λ (p : Plan). scan_kinds 0 (CLAIMS * p.seats)) (sym (ap (λ (z : View). z.plan) scan_view));
    own_words = words;
  }

  word_found : (c : ℕ) → c ≢ WALK → suc c ≤ CLAIMS → found_at (claim_at (number w.view) c) s.loads ≡ (claim_of c u.view).word
  word_found c other low = ap (λ (z : View). found_at (claim_at (number z) c) s.loads) scan_view ∙ (s.own_words c low ∙ ap (λ (y : Claim). y.word) (s.claims c other))

  claim_stood : (c : ℕ) → c ≢ WALK → suc c ≤ CLAIMS → stood_at (claim_at (number w.view) c) s.loads ≡ (claim_of c u.view).stands
  claim_stood c other low = ap (λ (z : View). stood_at (claim_at (number z) c) s.loads) scan_view ∙ (s.own_stood c low ∙ ap (λ (y : Claim). y.stands) (s.claims c other))

  pub held_same : held_by w.view.seen (number w.view) w.view.stands ≡ held_by u.view.seen (number u.view) u.view.stands
  held_same = ap (λ (z : View). held_by z.seen (number z) z.stands) scan_view

  -- what the scan found in the seat's own words
  pub own_words : (claim_of BACK u.view).stands ≡ true → (claim_of OWN u.view).word ≡ 0 → ((claim_of HOLD u.view).word ≡ 0) ⊎ ((held : List ℕ) × IsHolding held u.view) → FindsOwnWords w.view s.loads
  own_words back own hold = record {
    back = inr (claim_stood BACK (λ e. absurd (omega arith)) (omega arith) ∙ back);
    walk = ap (λ (z : View). found_at (claim_at (number z) WALK) s.loads) scan_view ∙ (s.own_words WALK (omega arith) ∙ s.walk_none);
    own = word_found OWN (λ e. absurd (omega arith)) (omega arith) ∙ own;
    hold = ⊎_elim
        (λ none. inl (word_found HOLD (λ e. absurd (omega arith)) (omega arith) ∙ none))
        (λ h. inr (record {
          words = h.0;
          holds = holding_stays h.0 u.view w.view held_same (s.claims HOLD (λ e. absurd (omega arith))) h.1;
          names = word_found HOLD (λ e. absurd (omega arith)) (omega arith) ∙ h.1.stands.at;
          stood = claim_stood HOLD (λ e. absurd (omega arith)) (omega arith) ∙ h.1.stands.on;
        }))
        hold;
  }

-- the same later in the call
pub own_words_later : {v w : View} {loads : List Counted} → number w ≡ number v → held_by w.seen (number w) w.stands ≡ held_by v.seen (number v) v.stands
    → claim_of HOLD w ≡ claim_of HOLD v → FindsOwnWords v loads → FindsOwnWords w loads
own_words_later {v} {w} {loads} least held claim f = record {
  back = ⊎_elim (λ e. inl (ap (λ (n : ℕ). found_at (claim_at n BACK) loads) least ∙ e)) (λ e. inr (ap (λ (n : ℕ). stood_at (claim_at n BACK) loads) least ∙ e)) f.back;
  walk = ap (λ (n : ℕ). found_at (claim_at n WALK) loads) least ∙ f.walk;
  own = ap (λ (n : ℕ). found_at (claim_at n OWN) loads) least ∙ f.own;
  hold = ⊎_elim (λ e. inl (ap (λ (n : ℕ). found_at (claim_at n HOLD) loads) least ∙ e)) (λ h. inr (record {
    words = h.words;
    holds = holding_stays h.words v w held claim h.holds;
    names = ap (λ (n : ℕ). found_at (claim_at n HOLD) loads) least ∙ h.names;
    stood = ap (λ (n : ℕ). stood_at (claim_at n HOLD) loads) least ∙ h.stood;
  })) f.hold;
}
