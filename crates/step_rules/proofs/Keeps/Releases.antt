-- VERSION RELEASE keeps the rule.
use Rattle.std.proofs.Common.{◌≡◌, ◌≢◌, ℕ, ◌+◌, ◌/◌, ◌<◌, ◌≤◌, List, length, drop, take, set, refl, sym, ap, ◌∙◌, subst, arith}
use Rattle.std.proofs.Common.{⊎_elim, inl}
use Rattle.std.proofs.lemmas.Bool.{cases_eq}
use Rattle.std.proofs.lemmas.List.{length-append, length-set, take_all}
use mathlib.Core.Option.{none}
use Rattle.atomic_table.specs.Table.{step, Allows}
use Rattle.seat_history.proofs.Changed.{set_at_here}
use Rattle.seat_history.specs.Contents.{set_at}
use Rattle.seat_history.specs.declared.entry.Entry.{Entry}
use Rattle.step_rules.specs.Claims.{OWN}
use Rattle.step_rules.specs.History.{NoneOn}
use Rattle.step_rules.specs.Kinds.Versions.{MayRelease}
use Rattle.step_rules.specs.Layout.{cells, version_at}
use Rattle.step_rules.specs.Plays.{Mine, released}
use Rattle.step_rules.specs.Rule.{Holds, version_word}
use Rattle.step_rules.specs.Seats.{SeatOk}
use Rattle.step_rules.specs.Versions.{IsEven, VersionedAt}
use Rattle.step_rules.specs.Views.{claim_of, counted, released_view, released_writer}
use Rattle.step_rules.specs.World.{World}
use Rattle.step_rules.specs.Writers.{Flies, LeavesLocks, SeatWriter, sites}
use Rattle.step_rules.specs.declared.layout.TheConstants.{NODE_WIDTH}
use Rattle.step_rules.specs.declared.plan.Plan.{Plan}
use Rattle.step_rules.specs.declared.view.Kind.TheVariants.{VersionRelease}
use Rattle.step_rules.specs.declared.view.View.{View}
use Rattle.step_rules.specs.declared.view.Writer.{Writer}
use Rattle.step_rules.proofs.Keeps.Beside.{beside, beside_else, beside_made}
use Rattle.step_rules.proofs.Numbers.Places.{at_below}
use Rattle.step_rules.proofs.Rely.Advance.{claim_found}
use Rattle.step_rules.proofs.Rely.Flights.{flight_since}
use Rattle.step_rules.proofs.Rely.Moments.{Made, Moment, moment, seat, store_owed, world}
use Rattle.step_rules.proofs.Rely.Writers.{locked_flies}
use Rattle.step_rules.proofs.World.Frames.{inline_wide, one_version, set_at_else, version_else, version_here, version_keeps_inline, version_store}

module _ (m : Moment) {k u : ℕ} (may : MayRelease k u m.view) where
  abbrev p : Plan
  p = m.view.plan

  abbrev W : World
  W = world m

  abbrev w : Writer
  w = m.view.writer

  abbrev version' : ℕ → ℕ
  version' = set_at W.version k (u + 2)

  abbrev locker' : ℕ → ℕ
  locker' = set_at W.locker k 0

  -- the words that it releases are its own
  abbrev source' : ℕ → ℕ → ℕ
  source' = set_at W.source k (set_at (W.source k) (u + 2) (w.change + 1))

  abbrev after : World
  after = beside m version' W.inline locker' source'

  o : SeatOk p W m.id m.view
  o = seat m

  flies : Flies w
  flies = locked_flies w may.locked

  pub release_inside : k < cells p
  release_inside = subst (λ j. j < cells p) may.cell (o.writer.sound.cell flies)

  version_now : W.version k ≡ u + 1
  version_now = ap W.version (sym may.cell) ∙ ((o.writer.locked may.locked).1 ∙ ap (λ n. n + 1) may.version)

  mine : W.locker k ≡ m.id + 1
  mine = ap W.locker (sym may.cell) ∙ (o.writer.locked may.locked).0

  even : IsEven u
  even = let is = (o.writer.sound.even (inl may.locked)).0 in let same = may.version in subst IsEven same is

  rises : (j : ℕ) → W.version j ≤ version' j
  rises j = ⊎_elim
      (λ same. let now : W.version j ≡ u + 1 = ap W.version same ∙ version_now in let then : version' j ≡ u + 2 = ap version' same ∙ set_at_here W.version k (u + 2) in omega arith)
      (λ ne. let stays = set_at_else W.version k j (u + 2) ne in omega arith)
      (cases_eq j k)

  source_new : source' k (u + 2) ≡ w.change + 1
  source_new = ap (λ f. f (u + 2)) (set_at_here W.source k (set_at (W.source k) (u + 2) (w.change + 1))) ∙ set_at_here (W.source k) (u + 2) (w.change + 1)

  source_old : (j x : ℕ) → x ≢ u + 2 → source' j x ≡ W.source j x
  source_old j x ne = ⊎_elim
      (λ same. ap (λ i. source' i x) same
      ∙ (ap (λ f. f x) (set_at_here W.source k (set_at (W.source k) (u + 2) (w.change + 1)))
      ∙ (set_at_else (W.source k) (u + 2) x (w.change + 1) ne ∙ ap (λ i. W.source i x) (sym same))))
      (λ apart. ap (λ f. f x) (set_at_else W.source k j (set_at (W.source k) (u + 2) (w.change + 1)) apart))
      (cases_eq j k)

  source_same : (j x : ℕ) → x ≤ W.version j → source' j x ≡ W.source j x
  source_same j x le = ⊎_elim
      (λ same. let now : W.version j ≡ u + 1 = ap W.version same ∙ version_now in source_old j x (λ e. omega arith))
      (λ apart. ap (λ f. f x) (set_at_else W.source k j (set_at (W.source k) (u + 2) (w.change + 1)) apart))
      (cases_eq j k)

  change_low : w.change + 1 ≤ length W.log
  change_low = let e = o.writer.sound.change flies in let low = at_below m.view.seen w.change e.0 e.1 in
      omega (arith, ap (length {A = Entry}) o.seen.whole, length-append m.view.seen o.seen.rest)

  -- all inline words are the node's
  image : W.inline w.cell ≡ W.node w.node
  image =
      let y = claim_of OWN m.view in
      let at = claim_found o.claims OWN (omega arith) in
      let on = o.writer.sound.own flies in
      let wide = inline_wide p m.ws w.cell m.rule.wide (o.writer.sound.cell flies) in
      let long = (o.claims.sound.there OWN w.node y at on).1 in
      let whole : take NODE_WIDTH (W.inline w.cell) ≡ take NODE_WIDTH y.image =
      subst (λ n. take n (W.inline w.cell) ≡ take n y.image) may.stores (o.writer.locked may.locked).2 in
      sym (take_all NODE_WIDTH (W.inline w.cell) (omega arith)) ∙ (whole ∙ (take_all NODE_WIDTH y.image (omega arith) ∙ sym (o.claims.image OWN w.node y at on)))

  flight : SeatWriter p (sites after) m.id m.view.seen (claim_of OWN m.view) (released_writer w)
  flight = let s = o.writer.sound in record {
    sound = record {
      cell = λ _. s.cell flies;
      own = λ _. s.own flies;
      change = λ _. s.change flies;
      even = λ _. s.even (inl may.locked);
      latest = λ _. s.latest (inl may.locked);
      stores = λ e. absurd cc;
    };
    before = λ _ x is. let low = o.writer.before flies x is in let up = rises w.cell in omega arith;
    last = λ _. o.writer.last flies;
    free = λ _. o.writer.free flies;
    locked = λ e. absurd cc;
    released = λ _. let is = may.version in let then : version' w.cell ≡ u + 2 = ap version' may.cell ∙ set_at_here W.version k (u + 2) in omega arith;
    locks = λ j e. absurd (⊎_elim
        (λ same. let none : 0 ≡ m.id + 1 = sym (ap locker' same ∙ set_at_here W.locker k 0) ∙ e in omega arith)
        (λ apart. apart (sym (o.writer.locks j (sym (set_at_else W.locker k j 0 apart) ∙ e)).1 ∙ may.cell))
        (cases_eq j k));
    stays = λ _. o.writer.stays flies;
    later = λ _ x is. let a = o.writer.later flies x is in let e = source_same w.cell x (o.writer.before flies x is) in omega arith;
    sourced = λ _. (λ i. source' (may.cell i) (may.version i + 2)) ∙ source_new;
  }

  leaves : (s : ℕ) (v : View) → s ≢ m.id → SeatOk p W s v → LeavesLocks s (sites W) (sites after)
  leaves s v ne ok = record {
    version = rises;
    locked = λ j e. ⊎_elim
        (λ same. absurd (ne (let both : s + 1 ≡ m.id + 1 = sym e ∙ (ap W.locker same ∙ mine) in omega arith)))
        (λ apart. (set_at_else W.locker k j 0 apart ∙ e, set_at_else W.version k j (u + 2) apart, refl))
        (cases_eq j k);
    locks = λ j e. ⊎_elim
        (λ same. absurd (let none : 0 ≡ s + 1 = sym (ap locker' same ∙ set_at_here W.locker k 0) ∙ e in omega arith))
        (λ apart. sym (set_at_else W.locker k j 0 apart) ∙ e)
        (cases_eq j k);
    source = λ j x le. source_same j x le;
    inline = λ j even same. refl;
  }

  versions : (j : ℕ) → j < cells p → VersionedAt p after j
  versions j lt = ⊎_elim
      (λ same.
      let before = m.rule.versions j lt in
      let now : W.version j ≡ u + 1 = ap W.version same ∙ version_now in
      let then : version' j ≡ u + 2 = ap version' same ∙ set_at_here W.version k (u + 2) in
      let is = even in record {
        locked = λ odd. absurd (omega arith);
        dated = λ x. ⊎_elim
            (λ last. let e : source' j x ≡ w.change + 1 = (λ i. source' (same i) (last i)) ∙ source_new in let low = change_low in omega arith)
            (λ ne. let e = source_old j x ne in let d = before.dated x in omega arith)
            (cases_eq x (u + 2));
        passed = λ x even' low still. before.passed x even' (omega arith) (subst (λ a. NoneOn p j (drop a W.log)) (source_old j x (λ e. omega arith)) still);
        copied = λ _ still.
            let own : NoneOn p w.cell (drop (w.change + 1) W.log) =
            subst (λ (z : ℕ × ℕ). NoneOn p z.0 (drop z.1 W.log)) (λ i. ((same ∙ sym may.cell) i, ((λ t. source' (same t) (then t)) ∙ source_new) i)) still in
            subst (λ i. W.inline i ≡ W.node (W.backup i / 2)) (may.cell ∙ sym same) (image ∙ ap W.node (sym (o.writer.stays flies own)));
        settled = λ even'. absurd (let was = (before.settled even').0 in omega arith);
        untouched = λ none. absurd (flight_since o flies 0 (omega arith) (subst (λ i. NoneOn p i W.log) (same ∙ sym may.cell) none));
      })
      (λ apart. beside_else m version' W.inline locker' source' j lt (set_at_else W.version k j (u + 2) apart) refl (set_at_else W.locker k j 0 apart)
      (λ x. ap (λ f. f x) (set_at_else W.source k j (set_at (W.source k) (u + 2) (w.change + 1)) apart)))
      (cases_eq j k)

  abbrev ws' : List ℕ
  ws' = set m.ws (version_at p k) (u + 2)

  pub release_made : Made m ws' (released_view k u m.view)
  release_made = beside_made m version' W.inline locker' source' {ws = ws'} {made = counted (VersionRelease k u) (u + 2) (length m.view.seen)} {writer = released_writer w} (record {
    stay = version_store p m.ws k (u + 2) release_inside;
    versions_are = λ j. let wide = m.rule.wide in ⊎_elim
        (λ same. ap (version_word p ws') same ∙ (version_here p m.ws k (u + 2) release_inside (omega arith) ∙ sym (ap version' same ∙ set_at_here W.version k (u + 2))))
        (λ apart. version_else p m.ws (version_at p k) (u + 2) j (λ _ e. apart (one_version p j k e)) ∙ sym (set_at_else W.version k j (u + 2) apart))
        (cases_eq j k);
    inlines_are = λ j. version_keeps_inline p m.ws k (u + 2) j;
    wide = length-set m.ws (version_at p k) (u + 2);
    counted = refl;
    other = λ j e. cc;
    rises = rises;
    still = λ j even same. refl;
    flight = flight;
    leaves = leaves;
    versions = versions;
    lockers = λ j s e. ⊎_elim
        (λ same. absurd (let none : 0 ≡ s + 1 = sym (ap locker' same ∙ set_at_here W.locker k 0) ∙ e in omega arith))
        (λ apart. m.rule.lockers j s (sym (set_at_else W.locker k j 0 apart) ∙ e))
        (cases_eq j k);
  })

pub releases : (slots id : ℕ) (me : Mine) (k u : ℕ) → 0 < length me.0.numbers → MayRelease k u me.0
    → Allows (Holds me.0.plan) slots id me (version_at me.0.plan k) (λ _. u + 2) (λ _. released (step slots (version_at me.0.plan k) (u + 2) 0 none) me (u + 2))
releases slots id me k u numbered may s r _ at _ =
    let v = me.0 in
    let m = moment id me numbered s r at in
    store_owed id me numbered s r at _ (version_at v.plan k) (u + 2) (released_view k u v) (release_made m may) refl numbered
    (λ j x e is. let q = one_version v.plan k j e in let t : u ≡ x = omega arith in λ i. released_view (q i) (t i) v)
