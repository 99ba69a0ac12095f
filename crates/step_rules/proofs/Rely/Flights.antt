-- What the rule says of a change in flight: where its entry stands, and what it has released.
use Rattle.std.proofs.Common.{◌≡◌, ℕ, ◌+◌, ◌/◌, ◌≤◌, suc, zero, List, [], ◌∷◌, drop, sym, ap, ◌∙◌, subst, arith, ⊎_elim, inr}
use Rattle.std.proofs.lemmas.Bool.{cases_eq}
use mathlib.Core.Option.{some}
use lib.ListN.{get_elem?}
use Rattle.atomic_table.proofs.Lists.{at_longer}
use Rattle.seat_history.specs.declared.entry.Entry.{Entry}
use Rattle.step_rules.specs.History.{NoneOn, cell_of}
use Rattle.step_rules.specs.Seats.{SeatOk}
use Rattle.step_rules.specs.Versions.{VersionedAt}
use Rattle.step_rules.specs.World.{World}
use Rattle.step_rules.specs.Writers.{Flies}
use Rattle.step_rules.specs.declared.plan.Plan.{Plan}
use Rattle.step_rules.specs.declared.view.Stage.TheVariants.{Released}
use Rattle.step_rules.specs.declared.view.View.{View}
use Rattle.step_rules.specs.declared.view.Writer.{Writer}
use Rattle.step_rules.proofs.Rely.Writers.{released_flies}

-- where an entry on the cell stands at a place, the history has one from each place on that isn't later
pub none_since : (p : Plan) (k : ℕ) (l : List Entry) (a i : ℕ) (e : Entry) → get_elem? l i ≡ some e → cell_of p e.call ≡ k → a ≤ i → NoneOn p k (drop a l) → ⊥
none_since p k [] a i e at on le none = cc
none_since p k (x ∷ l) zero zero e at on le none = let same : x ≡ e = cc in none.0 (ap (λ (z : Entry). cell_of p z.call) same ∙ on)
none_since p k (x ∷ l) zero (suc i) e at on le none = none_since p k l 0 i e at on (omega arith) none.1
none_since p k (x ∷ l) (suc a) zero e at on le none = omega arith
none_since p k (x ∷ l) (suc a) (suc i) e at on le none = none_since p k l a i e at on (omega arith) none

module _ {p : Plan} {W : World} {s : ℕ} {v : View} (ok : SeatOk p W s v) where
  abbrev w : Writer
  w = v.writer

  -- a change in flight is an entry on its cell
  pub flight_since : Flies w → (a : ℕ) → a ≤ w.change → NoneOn p w.cell (drop a W.log) → ⊥
  flight_since flies a le none =
      let e = ok.writer.sound.change flies in
      none_since p w.cell W.log a w.change e.0 (ap (λ l. get_elem? l w.change) ok.seen.whole ∙ at_longer v.seen ok.seen.rest w.change e.0 e.1) e.2 le none

  -- where the cell's backup names the node of a released change, the version is the one that it released, and the history has no entry on the
  -- cell since the change
  pub released_is : w.stage ≡ Released → VersionedAt p W w.cell → W.backup w.cell / 2 ≡ w.node
      → (W.version w.cell ≡ w.version + 2) × NoneOn p w.cell (drop (W.source w.cell (w.version + 2)) W.log)
  released_is released versioned names =
      let flies = released_flies w released in
      let even = (ok.writer.sound.even (inr released)).0 in
      let up = ok.writer.released released in
      let none : NoneOn p w.cell (drop (W.source w.cell (w.version + 2)) W.log) = subst (λ a. NoneOn p w.cell (drop a W.log)) (sym (ok.writer.sourced released)) (ok.writer.last flies names) in
      (⊎_elim (λ (e : W.version w.cell ≡ w.version + 2). e) (λ ne. absurd (versioned.passed (w.version + 2) (omega arith) (omega arith) none)) (cases_eq (W.version w.cell) (w.version + 2)), none)
