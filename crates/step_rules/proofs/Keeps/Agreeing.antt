-- What the rule comes to for versions and changes in flight.
use Rattle.std.proofs.Common.{◌≡◌, ℕ, ◌+◌, ◌/◌, ◌<◌, ◌⊎◌, suc, zero, List, [], ◌∷◌, length, refl, drop, take, sym, ap, ◌∙◌, subst, arith, ⊎_elim, inr}
use mathlib.Core.Option.{some}
use lib.ListN.{get_elem?}
use Rattle.seat_history.specs.declared.entry.Entry.{Entry}
use Rattle.atomic_table.proofs.Lists.{at_longer}
use Rattle.step_rules.specs.Claims.{OWN}
use Rattle.step_rules.specs.Flights.{FlightAgrees, IsLater, VersionAgrees}
use Rattle.step_rules.specs.History.{NoneOn}
use Rattle.step_rules.specs.Layout.{cells}
use Rattle.step_rules.specs.Readers.{IsFirst, SeatReader}
use Rattle.step_rules.specs.Recent.{IsRecent, RecentTells}
use Rattle.step_rules.specs.Records.{records_at}
use Rattle.step_rules.specs.Rule.{HoldsAt, backup_word, node_words, inline_words, version_word, world_of}
use Rattle.step_rules.specs.Untouched.{IsUntouched}
use Rattle.step_rules.specs.Versions.{FoundVersion, IsEven, IsOdd}
use Rattle.step_rules.specs.Views.{claim_of}
use Rattle.step_rules.specs.World.{Unwritten, World}
use Rattle.step_rules.specs.declared.plan.Plan.{Plan}
use Rattle.step_rules.specs.declared.view.View.{View}
use Rattle.step_rules.proofs.Rely.Advance.{claim_found}
use Rattle.step_rules.proofs.Rely.Flights.{flight_since, released_is}
use Rattle.step_rules.proofs.Rely.Seeing.{node_first}
use Rattle.step_rules.proofs.Rely.Writers.{locked_flies, released_flies, waiting_flies}

either_parity : (n : ℕ) → IsEven n ⊎ IsOdd n
either_parity n = grind arith

there : {A : Type 0} (l : List A) (i : ℕ) → i < length l → (a : A) × (get_elem? l i ≡ some a)
there [] i low = absurd (omega arith)
there (x ∷ l) zero low = (x, refl)
there (x ∷ l) (suc i) low = there l i (omega arith)

module _ (p : Plan) (ws : List ℕ) (vs : List View) (U : Unwritten) (h : HoldsAt p ws vs U) where
  abbrev W : World
  W = world_of p ws U

  pub version_agrees : (k : ℕ) → k < cells p → VersionAgrees p ws vs k
  version_agrees k lt = let at = h.versions k lt in record {
    copied = λ even unmarked. at.copied even (at.settled unmarked).1;
    marked = λ odd. ⊎_elim (λ even. absurd (let is = (at.settled even).0 in omega arith)) (λ is. is) (either_parity (W.backup k));
    locker = λ odd.
        let b = at.locked odd in
        let v = found_at b.0 (h.lockers k b.0 b.1) in
        let is = (h.seats b.0 v.0 v.1).writer.locks k b.1 in
        (b.0, v.0, v.1, record { locked = is.0; cell = is.1 });
    one = λ s t v u at_s at_t a b.
        let x = ((h.seats s v at_s).writer.locked a.locked).0 in
        let y = ((h.seats t u at_t).writer.locked b.locked).0 in
        let same = ap W.locker (a.cell ∙ sym b.cell) in
        omega arith;
  }
    where
      found_at : (s : ℕ) → s < length vs → (v : View) × (get_elem? vs s ≡ some v)
      found_at s low = there vs s low

  pub untouched_agrees : (k : ℕ) → k < cells p → NoneOn p k U.log → IsUntouched p k (version_word p ws k) (backup_word p ws k) (inline_words p ws k) (node_words p ws k)
  untouched_agrees k lt = (h.versions k lt).untouched

  pub flight_agrees : (s : ℕ) (v : View) → get_elem? vs s ≡ some v → FlightAgrees p ws U.log v
  flight_agrees s v at = let ok = h.seats s v at in let w = v.writer in record {
    found = ok.versions.found;
    claimed = ok.writer.sound.own;
    change = λ flies.
        let e = ok.writer.sound.change flies in
        (e.0, ap (λ l. get_elem? l w.change) ok.seen.whole ∙ at_longer v.seen ok.seen.rest w.change e.0 e.1, e.2);
    last = ok.writer.last;
    waiting = λ stage u found still.
        let flies = waiting_flies w stage in ⊎_elim
        (λ even. absurd (flight_since ok flies (W.source w.cell u) (ok.writer.later flies u found)
        (subst (λ x. NoneOn p w.cell (drop (W.source w.cell x) W.log)) still ((h.versions w.cell (ok.writer.sound.cell flies)).settled even).1)))
        (λ odd. odd)
        (either_parity (W.backup w.cell));
    locked = λ stage.
        let flies = locked_flies w stage in
        let q = ok.writer.locked stage in
        let y = claim_of OWN v in
        let image = ok.claims.image OWN w.node y (claim_found ok.claims OWN (omega arith)) (ok.writer.sound.own flies) in
        (q.1, q.2 ∙ ap (take w.stores) (sym image));
    released = ok.writer.released;
    done = λ stage names.
        let versioned = h.versions w.cell (ok.writer.sound.cell (released_flies w stage)) in
        let is = released_is ok stage versioned names in
        let even = (ok.writer.sound.even (inr stage)).0 in
        let now = is.0 in
        (is.0, versioned.copied (omega arith) (subst (λ x. NoneOn p w.cell (drop (W.source w.cell x) W.log)) (sym is.0) is.1) ∙ ap (node_words p ws) names);
  }

  pub later_found : (s t : ℕ) (v u : View) → get_elem? vs s ≡ some v → get_elem? vs t ≡ some u → IsLater v u
  later_found s t v u at_s at_t stage flies same found =
      let a = (h.seats s v at_s).writer.sourced stage in
      let b = (h.seats t u at_t).writer.later flies (v.writer.version + 2) (subst (λ k. FoundVersion k (v.writer.version + 2) u.writer.before) (sym same) found) in
      let e = ap (λ k. W.source k (v.writer.version + 2)) same in
      omega arith

  pub reads_agree_at : (s : ℕ) (v : View) → get_elem? vs s ≡ some v → SeatReader p (version_word p ws) (inline_words p ws) v.seen v.reader
  reads_agree_at s v at = (h.seats s v at).reader

pub look_tells : (p : Plan) (k x : ℕ) (log : List Entry) (look : IsRecent p k x log) → k < cells p → RecentTells look
look_tells p k x log look lt =
    let W = world_of p look.words look.unwritten in record {
      seen = λ s v at. let seen = (look.rule.seats s v at).seen in (seen.rest, sym look.whole ∙ seen.whole);
      node = subst (λ (z : List Entry × ℕ). IsFirst (records_at p z.0 k) (node_words p look.words (z.1 / 2))) (λ i. (look.whole i, look.found i))
          (node_first p W k (look.rule.cells.cell k lt));
      untouched = λ none. sym look.found ∙ ((look.rule.versions k lt).untouched (subst (NoneOn p k) (sym look.whole) none)).backup_is;
    }
