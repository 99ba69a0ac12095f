-- VERSION LOAD and VERSION LOCK keep the rule.
use Rattle.std.proofs.Common.{◌≡◌, ◌≢◌, ◌==◌, ℕ, ◌+◌, ◌<◌, ◌≤◌, List, [], ◌∷◌, ◌++◌, length, drop, get_or, set, refl, sym, ap, ◌∙◌, subst, arith}
use Rattle.std.proofs.Common.{le_refl, ⊎_elim, inl}
use Rattle.std.proofs.lemmas.Bool.{cases_eq}
use Rattle.std.proofs.lemmas.List.{length-set}
use mathlib.Core.Option.{none}
use prog.Atomic.{either}
use Rattle.atomic_table.proofs.Lists.{exchanged as by_hit}
use Rattle.atomic_table.specs.Table.{Act, step, stepped, Allows, Valid, carried_after}
use Rattle.seat_history.proofs.Changed.{set_at_here}
use Rattle.seat_history.specs.Contents.{set_at}
use Rattle.seat_history.specs.declared.call.Call.{Call}
use Rattle.step_rules.specs.Claims.{OWN}
use Rattle.step_rules.specs.History.{NoneOn}
use Rattle.step_rules.specs.Kinds.Versions.{MayLock}
use Rattle.step_rules.specs.Layout.{cells, version_at}
use Rattle.step_rules.specs.Plays.{Mine, locked, version_loaded}
use Rattle.step_rules.specs.Rule.{Holds, version_word}
use Rattle.step_rules.specs.Seats.{SeatOk}
use Rattle.step_rules.specs.Versions.{FoundVersion, IsOdd, SeatVersions, VersionedAt}
use Rattle.step_rules.specs.Views.{claim_of, counted, locked_view, locked_writer, missed_view, version_view}
use Rattle.step_rules.specs.World.{World}
use Rattle.step_rules.specs.Writers.{HasLocked, LeavesLocks, SeatWriter, sites}
use Rattle.step_rules.specs.declared.plan.Plan.{Plan}
use Rattle.step_rules.specs.declared.view.Counted.{Counted}
use Rattle.step_rules.specs.declared.view.Kind.TheVariants.{VersionLoad, VersionLock}
use Rattle.step_rules.specs.declared.view.View.{View}
use Rattle.step_rules.specs.declared.view.Writer.{Writer}
use Rattle.step_rules.proofs.Keeps.Beside.{beside, beside_else, beside_made}
use Rattle.step_rules.proofs.Keeps.Loads.{counted_ok}
use Rattle.step_rules.proofs.Line.Trails.{goes_on_same, trail_step}
use Rattle.step_rules.proofs.Numbers.Places.{at_below, at_more}
use Rattle.step_rules.proofs.Rely.Flights.{flight_since}
use Rattle.step_rules.proofs.Rely.Moments.{Made, Moment, load_owed, moment, own_step, seat, store_owed, world}
use Rattle.step_rules.proofs.World.Frames.{one_version, set_at_else, version_else, version_here, version_is, version_keeps_inline, version_store}

-- VERSION LOAD: the version found is the one that is there
version_found : {version : ℕ → ℕ} {trail : List Counted} (k x n : ℕ) → version k ≡ x → SeatVersions version trail → SeatVersions version (trail ++ counted (VersionLoad k) x n ∷ [])
version_found {version = version} {trail = trail} k x n is o = record {
  found = λ j u f. ⊎_elim
      (λ q. o.found j u (record { place = f.place; step = f.step; at = q.1; kind = f.kind; found = f.found }))
      (λ q.
      let kinds : VersionLoad k ≡ VersionLoad j = ap (λ (z : Counted). z.kind) q.1 ∙ f.kind in
      let same : k ≡ j = cc in
      let found : x ≡ u = ap (λ (z : Counted). z.found) q.1 ∙ f.found in
      let now : version j ≡ x = ap version (sym same) ∙ is in
      omega arith)
      (at_more trail (counted (VersionLoad k) x n) f.step f.place f.at);
}

version_ok : (p : Plan) (W : World) (id k x : ℕ) (v : View) → k < cells p → W.version k ≡ x → SeatOk p W id v → SeatOk p W id (version_view k x v)
version_ok p W id k x v there is ok = record {
  plan = ok.plan;
  numbers = ok.numbers;
  nodes = ok.nodes;
  stock = ok.stock;
  seen = ok.seen;
  earlier = ok.earlier;
  lawful = ok.lawful;
  trail = trail_step v.seen (counted (VersionLoad k) x (length v.seen)) ok.trail (goes_on_same v.seen) (le_refl (length v.seen));
  look = ok.look;
  claims = ok.claims;
  scan = ok.scan;
  versions = version_found k x (length v.seen) is ok.versions;
  writer = ok.writer;
  reader = record {
    sound = record { cell = λ even. there; at = omega arith; long = omega arith; whole = λ e. absurd cc };
    old = λ even. let now = is in omega arith;
    words = λ even same. refl;
    told = λ even e. absurd cc;
  };
}

pub version_loads : (slots id : ℕ) (me : Mine) (k : ℕ) → 0 < length me.0.numbers → k < cells me.0.plan
    → Allows (Holds me.0.plan) slots id me (version_at me.0.plan k) (λ x. x) (version_loaded (step slots (version_at me.0.plan k) 0 0 none) me)
version_loads slots id me k numbered inside s r _ at _ =
    let p = me.0.plan in
    let m = moment id me numbered s r at in
    let x = get_or s.words (version_at p k) 0 in
    let w = version_view k x me.0 in
    load_owed id me numbered s r at _ (version_at p k) w (own_step m w (version_ok p (world m) id k x me.0 inside (sym (version_is p s.words k inside)) (seat m)) (le_refl me.0.changes)) refl numbered
    (λ j e. let q = one_version p k j e in λ i. version_view (q i) x me.0)

-- an odd version is none from which a seat may lock
module _ (m : Moment) where
  -- the cell of another seat's lock has an odd version
  pub other_odd : (s : ℕ) (u : View) (j : ℕ) → SeatOk m.view.plan (world m) s u → (world m).locker j ≡ s + 1 → IsOdd ((world m).version j)
  other_odd s u j ok e =
      let has = ok.writer.locks j e in
      let now = (ok.writer.locked has.0).1 in
      let even = (ok.writer.sound.even (inl has.0)).0 in
      let at : (world m).version u.writer.cell ≡ (world m).version j = ap (world m).version has.1 in
      omega arith

-- VERSION LOCK that found the version
module _ (m : Moment) {k u : ℕ} (may : MayLock k u m.view) (hit : version_word m.view.plan m.ws k ≡ u) where
  abbrev p : Plan
  p = m.view.plan

  abbrev W : World
  W = world m

  abbrev w : Writer
  w = m.view.writer

  abbrev version' : ℕ → ℕ
  version' = set_at W.version k (u + 1)

  abbrev locker' : ℕ → ℕ
  locker' = set_at W.locker k (m.id + 1)

  abbrev after : World
  after = beside m version' W.inline locker' W.source

  o : SeatOk p W m.id m.view
  o = seat m

  pub lock_inside : k < cells p
  lock_inside = subst (λ j. j < cells p) may.cell (o.writer.sound.cell may.flies)

  version_now : W.version w.cell ≡ u
  version_now = ap W.version may.cell ∙ hit

  found : FoundVersion w.cell u w.before
  found = subst (λ j. FoundVersion j u w.before) (sym may.cell) may.found

  -- it locks for the first time
  first_lock : HasLocked w → ⊥
  first_lock has = let now = version_now in let low = o.writer.sound.latest has u found in ⊎_elim
      (λ e. let at = (o.writer.locked e).1 in omega arith)
      (λ e. let at = o.writer.released e in omega arith)
      has

  rises : (j : ℕ) → W.version j ≤ version' j
  rises j = ⊎_elim
      (λ same. let now : W.version j ≡ u = ap W.version same ∙ hit in let then : version' j ≡ u + 1 = ap version' same ∙ set_at_here W.version k (u + 1) in omega arith)
      (λ ne. let stays = set_at_else W.version k j (u + 1) ne in omega arith)
      (cases_eq j k)

  flight : SeatWriter p (sites after) m.id m.view.seen (claim_of OWN m.view) (locked_writer u w)
  flight = let f = may.flies in let s = o.writer.sound in let now = version_now in record {
    sound = record {
      cell = λ _. s.cell f;
      own = λ _. s.own f;
      change = λ _. s.change f;
      even = λ _. (may.even, may.small);
      latest = λ _ x is. let low = o.writer.before f x is in omega arith;
      stores = λ _. omega arith;
    };
    before = λ _ x is. let low = o.writer.before f x is in let up = rises w.cell in omega arith;
    last = λ _. o.writer.last f;
    free = λ _. o.writer.free f;
    locked = λ _. (ap locker' may.cell ∙ set_at_here W.locker k (m.id + 1), ap version' may.cell ∙ set_at_here W.version k (u + 1), refl);
    released = λ e. absurd cc;
    locks = λ j e. ⊎_elim
        (λ same. (refl, may.cell ∙ sym same))
        (λ ne. absurd (first_lock (inl (o.writer.locks j (sym (set_at_else W.locker k j (m.id + 1) ne) ∙ e)).0)))
        (cases_eq j k);
    stays = λ _. o.writer.stays f;
    later = λ _. o.writer.later f;
    sourced = λ e. absurd cc;
  }

  leaves : (s : ℕ) (v : View) → s ≢ m.id → SeatOk p W s v → LeavesLocks s (sites W) (sites after)
  leaves s v ne ok = record {
    version = rises;
    locked = λ j e. ⊎_elim
        (λ same. absurd (let odd = other_odd m s v j ok e in let now : W.version j ≡ u = ap W.version same ∙ hit in let even = may.even in omega arith))
        (λ apart. (set_at_else W.locker k j (m.id + 1) apart ∙ e, set_at_else W.version k j (u + 1) apart, refl))
        (cases_eq j k);
    locks = λ j e. ⊎_elim
        (λ same. absurd (ne (let mine : m.id + 1 ≡ s + 1 = sym (ap locker' same ∙ set_at_here W.locker k (m.id + 1)) ∙ e in omega arith)))
        (λ apart. sym (set_at_else W.locker k j (m.id + 1) apart) ∙ e)
        (cases_eq j k);
    source = λ j x le. refl;
    inline = λ j even same. refl;
  }

  -- the own entry is on the cell since the version's words
  passes : (j x : ℕ) → j ≡ k → x ≡ u → NoneOn p j (drop (W.source j x) W.log) → ⊥
  passes j x same is still = flight_since o may.flies (W.source w.cell u) (o.writer.later may.flies u found)
      (subst (λ (z : ℕ × ℕ). NoneOn p z.0 (drop (W.source z.0 z.1) W.log)) (λ i. ((same ∙ sym may.cell) i, is i)) still)

  versions : (j : ℕ) → j < cells p → VersionedAt p after j
  versions j lt = ⊎_elim
      (λ same.
      let before = m.rule.versions j lt in
      let now : W.version j ≡ u = ap W.version same ∙ hit in
      let then : version' j ≡ u + 1 = ap version' same ∙ set_at_here W.version k (u + 1) in
      let is = may.even in record {
        locked = λ _. (m.id, ap locker' same ∙ set_at_here W.locker k (m.id + 1));
        dated = before.dated;
        passed = λ x even low still. ⊎_elim (λ last. passes j x same last still) (λ ne. before.passed x even (omega arith) still) (cases_eq x u);
        copied = λ even. absurd (omega arith);
        settled = λ even. absurd (passes j (W.version j) same now (before.settled even).1);
        untouched = λ none. absurd (flight_since o may.flies 0 (omega arith) (subst (λ i. NoneOn p i W.log) (same ∙ sym may.cell) none));
      })
      (λ apart. beside_else m version' W.inline locker' W.source j lt (set_at_else W.version k j (u + 1) apart) refl (set_at_else W.locker k j (m.id + 1) apart) (λ x. refl))
      (cases_eq j k)

  abbrev ws' : List ℕ
  ws' = set m.ws (version_at p k) (u + 1)

  pub lock_made : Made m ws' (locked_view k u m.view)
  lock_made = beside_made m version' W.inline locker' W.source {ws = ws'} {made = counted (VersionLock k u) u (length m.view.seen)} {writer = locked_writer u w} (record {
    stay = version_store p m.ws k (u + 1) lock_inside;
    versions_are = λ j. let wide = m.rule.wide in ⊎_elim
        (λ same. ap (version_word p ws') same ∙ (version_here p m.ws k (u + 1) lock_inside (omega arith) ∙ sym (ap version' same ∙ set_at_here W.version k (u + 1))))
        (λ apart. version_else p m.ws (version_at p k) (u + 1) j (λ _ e. apart (one_version p j k e)) ∙ sym (set_at_else W.version k j (u + 1) apart))
        (cases_eq j k);
    inlines_are = λ j. version_keeps_inline p m.ws k (u + 1) j;
    wide = length-set m.ws (version_at p k) (u + 1);
    counted = refl;
    other = λ j e. cc;
    rises = rises;
    still = λ j even same. refl;
    flight = flight;
    leaves = leaves;
    versions = versions;
    lockers = λ j s e. ⊎_elim
        (λ same. let mine : m.id + 1 ≡ s + 1 = sym (ap locker' same ∙ set_at_here W.locker k (m.id + 1)) ∙ e in let low = at_below m.vs m.id m.view m.at in omega arith)
        (λ apart. m.rule.lockers j s (sym (set_at_else W.locker k j (m.id + 1) apart) ∙ e))
        (cases_eq j k);
  })

pub locks : (slots id : ℕ) (me : Mine) (k u : ℕ) → 0 < length me.0.numbers → MayLock k u me.0
    → Allows (Holds me.0.plan) slots id me (version_at me.0.plan k) (λ y. either (y == u) (u + 1) y) (locked (step slots (version_at me.0.plan k) u (u + 1) none) me)
locks slots id me k u numbered may s r _ at _ =
    let v = me.0 in
    let m = moment id me numbered s r at in
    let place = version_at v.plan k in
    let x = get_or s.words place 0 in
    let inside : k < cells v.plan = subst (λ j. j < cells v.plan) may.cell ((seat m).writer.sound.cell may.flies) in
    let named = version_is v.plan s.words k inside in
    let lost = missed_view k u x v in
    by_hit x u (u + 1)
    (λ (z : ℕ). (w : View) × (a : Act Call) × Valid s.homes me.1 a × Holds v.plan (stepped s place z id me.1 w a)
    × locked (step slots place u (u + 1) none) me x (w, carried_after me.1 a))
    (λ hit. let found : version_word v.plan s.words k ≡ u = sym named ∙ hit in
    store_owed id me numbered s r at _ place (u + 1) (locked_view k u v) (lock_made m may found) refl numbered (λ j e. let q = one_version v.plan k j e in (
      λ _ i. locked_view (q i) u v,
      λ miss. absurd (miss hit),
    )))
    (λ miss.
    load_owed id me numbered s r at _ place lost
    (own_step m lost (counted_ok v.plan (world m) id v (counted (VersionLock k u) x (length v.seen)) v.scan (seat m) refl (λ j e. cc) (seat m).scan) (le_refl v.changes)) refl numbered
    (λ j e. let q = one_version v.plan k j e in (
      λ hit. absurd (miss hit),
      λ _ i. missed_view (q i) u x v,
    )))
