-- Tries at a cell's mark: the version that a change goes by, and what its refresh leaves.
use Rattle.std.proofs.Common.{◌≡◌, ◌∙◌, ℕ, ◌+◌, ◌≤◌, suc, List, [], ◌∷◌, ◌++◌, length, take, drop, append-nil, append_assoc, length-append, refl, sym, ap, subst, arith, inl, inr, ⊎_elim}
use Rattle.std.proofs.lemmas.List.{drop-append-le, take-append-drop}
use Rattle.big_atomic.proofs.Ending.{EndsBy}
use Rattle.big_atomic.proofs.Paid.{AreStill, lost-append, node_stores-append, scan_loads-append, still-append}
use Rattle.big_atomic.specs.Marks.{Among, HasBegun, HasTurn, HasVersion, Tries}
use Rattle.big_atomic.specs.Turns.{lost_steps, node_stores, scan_loads}
use Rattle.cache_copy.specs.Refreshing.{FoundMoved, HasCopied, OnlyRefreshed, Refreshes, copy_steps, own_words, write_steps}
use Rattle.cache_copy.specs.declared.answers.Refresh.{Refresh}
use Rattle.cache_copy.specs.declared.answers.Refresh.TheVariants.{Refreshed, LeftStale}
use Rattle.cache_copy.specs.declared.answers.Stale.TheVariants.{Odd, Last, Moved, Replaced}
use Rattle.step_rules.proofs.Numbers.Places.{at_behind}
use Rattle.step_rules.specs.Claims.{HOLD}
use Rattle.step_rules.specs.SeatData.{SeatData}
use Rattle.step_rules.specs.Versions.{FoundVersion}
use Rattle.step_rules.specs.Views.{claim_of, counted}
use Rattle.step_rules.specs.declared.layout.TheConstants.{NODE_WIDTH}
use Rattle.step_rules.specs.declared.view.Counted.{Counted}
use Rattle.step_rules.specs.declared.view.Kind.{Kind}
use Rattle.step_rules.specs.declared.view.Kind.TheVariants.{MarkClear, VersionLoad, VersionLock, VersionRelease}
use Rattle.step_rules.specs.declared.view.View.{View}

-- THE VERSION stays found as steps that aren't lost are made, and whatever was made before
pub version_more : {k u : ℕ} (a b : List Counted) → lost_steps b ≡ 0 → HasVersion k u a → HasVersion k u (a ++ b)
version_more {k} {u} a b none h =
    let kept = h.kept in record {
      front = h.front;
      saw = h.saw;
      rest = h.rest ++ b;
      whole = ap (λ (l : List Counted). l ++ b) h.whole ∙ append_assoc h.front (counted (VersionLoad k) u h.saw ∷ h.rest) b;
      kept = omega (arith, lost-append h.rest b);
    }

pub version_behind : {k u : ℕ} (a b : List Counted) → HasVersion k u b → HasVersion k u (a ++ b)
version_behind {k} {u} a b h = record {
  front = a ++ h.front;
  saw = h.saw;
  rest = h.rest;
  whole = ap (λ (l : List Counted). a ++ l) h.whole ∙ sym (append_assoc a h.front (counted (VersionLoad k) u h.saw ∷ h.rest));
  kept = h.kept;
}

pub turn_more : {k u word : ℕ} (a b : List Counted) → lost_steps b ≡ 0 → HasTurn k u word a → HasTurn k u word (a ++ b)
turn_more {k} {u} a b none h =
    let kept = h.loaded.kept in record {
      loaded = record {
        front = h.loaded.front;
        saw = h.loaded.saw;
        rest = h.loaded.rest ++ b;
        whole = ap (λ (l : List Counted). l ++ b) h.loaded.whole ∙ append_assoc h.loaded.front (counted (VersionLoad k) u h.loaded.saw ∷ h.loaded.rest) b;
        kept = omega (arith, lost-append h.loaded.rest b);
      };
      looked = record {
        front = h.looked.front;
        look = h.looked.look;
        back = h.looked.back ++ b;
        whole = ap (λ (l : List Counted). l ++ b) h.looked.whole ∙ append_assoc h.looked.front (h.looked.look ∷ h.looked.back) b;
        looks = h.looked.looks;
        found = h.looked.found;
      };
    }

pub turn_behind : {k u word : ℕ} (a b : List Counted) → HasTurn k u word b → HasTurn k u word (a ++ b)
turn_behind {k} {u} a b h = record {
  loaded = record {
    front = a ++ h.loaded.front;
    saw = h.loaded.saw;
    rest = h.loaded.rest;
    whole = ap (λ (l : List Counted). a ++ l) h.loaded.whole ∙ sym (append_assoc a h.loaded.front (counted (VersionLoad k) u h.loaded.saw ∷ h.loaded.rest));
    kept = h.loaded.kept;
  };
  looked = h.looked;
}

-- so a call's turn is one of the seat's since its last stand
pub turn_begun : {k u word : ℕ} {steps : List Counted} (v w : View) → v.since ≤ length v.trail → w.since ≡ v.since → w.trail ≡ v.trail ++ steps
    → HasTurn k u word steps → HasBegun k u word w
turn_begun {k} {u} {word} {steps} v w within since trail h =
    subst (λ (l : List Counted). HasTurn k u word l) (sym ((λ i. drop (since i) (trail i)) ∙ drop-append-le v.since v.trail steps within))
    (turn_behind (drop v.since v.trail) steps h)

-- and its version is one that the seat found
found_among : {k u : ℕ} {steps : List Counted} → HasVersion k u steps → FoundVersion k u steps
found_among {k} {u} h =
    let load : Counted = counted (VersionLoad k) u h.saw in
    let b = at_behind h.front (load ∷ h.rest) 0 load refl in
    subst (λ (l : List Counted). FoundVersion k u l) (sym h.whole) (record { place = b.0; step = load; at = b.1; kind = refl; found = refl })

pub begun_found : {k u word : ℕ} (v : View) (more : List Counted) → lost_steps more ≡ 0 → HasBegun k u word v → FoundVersion k u (v.trail ++ more)
begun_found {k} {u} v more none h = found_among (version_more v.trail more none
    (subst (λ (l : List Counted). HasVersion k u l) (take-append-drop v.since v.trail) (version_behind (take v.since v.trail) (drop v.since v.trail) h.loaded)))

-- THE STEPS OF A REFRESH
copies_still : (k j : ℕ) (ws : List ℕ) (seen : ℕ) → AreStill (copy_steps k j ws seen)
copies_still k j [] seen = refl
copies_still k j (w ∷ ws) seen = copies_still k (suc j) ws seen

copies_unscanned : (k j : ℕ) (ws : List ℕ) (seen : ℕ) → scan_loads (copy_steps k j ws seen) ≡ 0
copies_unscanned k j [] seen = refl
copies_unscanned k j (w ∷ ws) seen = copies_unscanned k (suc j) ws seen

copies_unfilled : (k j : ℕ) (ws : List ℕ) (seen : ℕ) → node_stores (copy_steps k j ws seen) ≡ 0
copies_unfilled k j [] seen = refl
copies_unfilled k j (w ∷ ws) seen = copies_unfilled k (suc j) ws seen

copies_length : (k j : ℕ) (ws : List ℕ) (seen : ℕ) → length (copy_steps k j ws seen) ≡ length ws
copies_length k j [] seen = refl
copies_length k j (w ∷ ws) seen = ap suc (copies_length k (suc j) ws seen)

-- a refresh of the cell k, whose node is n, by the version u
pub record Marks (k n u : ℕ) (before now : SeatData) : Type 0 where
  pub steps : List Counted
  pub trail : now.view.trail ≡ before.view.trail ++ steps
  pub still : AreStill steps
  pub none_scanned : scan_loads steps ≡ 0
  pub none_filled : node_stores steps ≡ 0
  pub few : length steps ≤ NODE_WIDTH + 3
  pub tries : Tries k n u steps

marks_none : {k n u : ℕ} {before now : SeatData} → now ≡ before → Tries k n u [] → Marks k n u before now
marks_none {before = before} same tries = record {
  steps = [];
  trail = ap (λ (z : SeatData). z.view.trail) same ∙ sym (append-nil before.view.trail);
  still = refl;
  none_scanned = refl;
  none_filled = refl;
  few = omega arith;
  tries = tries;
}

marks_moved : {k n u : ℕ} {before now : SeatData} → FoundMoved k u before now → Marks k n u before now
marks_moved {k} {n} {u} {before} h =
    let seen = length before.view.seen in
    record {
      steps = counted (VersionLock k u) h.found seen ∷ [];
      trail = ap (λ (z : SeatData). z.view.trail) h.after;
      still = refl;
      none_scanned = refl;
      none_filled = refl;
      few = omega arith;
      tries = inr (inr (inr (inl (h.found, h.moved, record { front = []; saw = seen; back = []; whole = refl }))));
    }

marks_copied : {k n u x : ℕ} {before now : SeatData} → ((steps : List Counted) → Among (MarkClear k n) x steps → Tries k n u steps)
    → HasCopied k n u x before now → Marks k n u before now
marks_copied {k} {n} {u} {x} {before} {now} told h =
    let seen = length before.view.seen in
    let copies : List Counted = copy_steps k 0 (own_words before.view) seen in
    let release : List Counted = counted (VersionRelease k u) (u + 2) seen ∷ [] in
    let writes : List Counted = write_steps k u (own_words before.view) seen in
    let clear : List Counted = counted (MarkClear k n) x (length now.view.seen) ∷ [] in
    let wide = h.whole in
    record {
      steps = writes ++ clear;
      trail = h.trail;
      still = still-append writes clear (still-append copies release (copies_still k 0 (own_words before.view) seen) refl) refl;
      none_scanned = omega (arith, scan_loads-append writes clear, scan_loads-append copies release, copies_unscanned k 0 (own_words before.view) seen);
      none_filled = omega (arith, node_stores-append writes clear, node_stores-append copies release, copies_unfilled k 0 (own_words before.view) seen);
      few = omega (arith, length-append writes clear, length-append copies release, copies_length k 0 (own_words before.view) seen);
      tries = told (writes ++ clear) (record { front = writes; saw = length now.view.seen; back = []; whole = refl });
    }

pub marks_of : {k n u : ℕ} {before now : SeatData} (answer : Refresh) → Refreshes k n u answer before now → Marks k n u before now
marks_of (LeftStale Odd) h = marks_none h.1 (inr (inl h.0))
marks_of (LeftStale Last) h = marks_none h.2 (inr (inr (inl h.1)))
marks_of (LeftStale Moved) h = marks_moved h
marks_of (LeftStale Replaced) h = marks_copied (λ steps a. inr (inr (inr (inr (h.0, h.1, a))))) h.2
marks_of Refreshed h = marks_copied (λ steps a. inl a) h

-- further steps take no try away
pub among_more : {kind : Kind} {x : ℕ} (a b : List Counted) → Among kind x a → Among kind x (a ++ b)
among_more {kind} {x} a b h = record {
  front = h.front;
  saw = h.saw;
  back = h.back ++ b;
  whole = ap (λ (l : List Counted). l ++ b) h.whole ∙ append_assoc h.front (counted kind x h.saw ∷ h.back) b;
}

pub tries_more : {k n u : ℕ} (a b : List Counted) → Tries k n u a → Tries k n u (a ++ b)
tries_more a b tries = ⊎_elim (λ h. inl (among_more a b h)) (λ r. inr (⊎_elim (λ h. inl h) (λ r. inr (⊎_elim (λ h. inl h)
    (λ r. inr (⊎_elim (λ h. inl (h.0, h.1, among_more a b h.2)) (λ h. inr (h.0, h.1, among_more a b h.2)) r)) r)) r)) tries

-- the claims stay
pub ends_refresh : {k n u : ℕ} {before now : SeatData} (m : Marks k n u before now) → OnlyRefreshed before now → EndsBy m.steps before now
ends_refresh {before = before} {now = now} m only =
    let same = only.same in
    record {
      object = ap (λ (z : SeatData). z.object) same;
      first = ap (λ (z : SeatData). z.first) same;
      holding = ap (λ (z : SeatData). z.holding) same;
      view = ap (λ (z : SeatData). z.view) same ∙ (λ i. record before.view {
        seen = now.view.seen;
        look = now.view.look;
        claims = ap (λ (z : SeatData). z.view.claims) (sym same) i;
        trail = m.trail i;
        writer = ap (λ (z : SeatData). z.view.writer) (sym same) i;
      });
      seen = only.seen;
      still = m.still;
      none_scanned = m.none_scanned;
      none_filled = m.none_filled;
      hold = ap (λ (z : SeatData). claim_of HOLD z.view) same;
    }
