-- INLINE STORE keeps the rule.
use Rattle.std.proofs.Common.{◌≡◌, ◌≢◌, ℕ, ◌+◌, ◌<◌, suc, List, [], ◌∷◌, ◌++◌, length, get_or, set, take, refl, sym, ap, ◌∙◌, subst, arith, add-one}
use Rattle.std.proofs.Common.{le_refl, ⊎_elim, inl, inr}
use Rattle.std.proofs.lemmas.Bool.{cases_eq, cases_lt}
use Rattle.std.proofs.lemmas.List.{length-set, take-set-le}
use mathlib.Core.Option.{none}
use Rattle.atomic_table.specs.Table.{step, Allows}
use Rattle.seat_history.proofs.Changed.{set_at_here}
use Rattle.seat_history.specs.Contents.{set_at}
use Rattle.step_rules.specs.Claims.{OWN}
use Rattle.step_rules.specs.History.{NoneOn}
use Rattle.step_rules.specs.Kinds.Versions.{MayCopy}
use Rattle.step_rules.specs.Layout.{cells, inline_at}
use Rattle.step_rules.specs.Plays.{Mine, copied}
use Rattle.step_rules.specs.Rule.{Holds, inline_words}
use Rattle.step_rules.specs.Seats.{SeatOk}
use Rattle.step_rules.specs.Versions.{IsEven, VersionedAt}
use Rattle.step_rules.specs.Views.{claim_of, copied_view, copied_writer, counted}
use Rattle.step_rules.specs.World.{World}
use Rattle.step_rules.specs.Writers.{Flies, LeavesLocks, SeatWriter, sites}
use Rattle.step_rules.specs.declared.layout.TheConstants.{NODE_WIDTH}
use Rattle.step_rules.specs.declared.plan.Plan.{Plan}
use Rattle.step_rules.specs.declared.view.Kind.TheVariants.{InlineStore}
use Rattle.step_rules.specs.declared.view.View.{View}
use Rattle.step_rules.specs.declared.view.Writer.{Writer}
use Rattle.step_rules.proofs.Keeps.Beside.{beside, beside_else, beside_made}
use Rattle.step_rules.proofs.Numbers.Places.{at_there, take_to}
use Rattle.step_rules.proofs.Rely.Advance.{claim_found}
use Rattle.step_rules.proofs.Rely.Flights.{flight_since}
use Rattle.step_rules.proofs.Rely.Moments.{Made, Moment, moment, seat, set_found, store_owed, world}
use Rattle.step_rules.proofs.Rely.Writers.{locked_flies}
use Rattle.step_rules.proofs.World.Frames.{inline_else, inline_here, inline_keeps_version, inline_store, inline_wide, one_inline, set_at_else}

-- one word more is the same, where the words before are
take_more : (l g : List ℕ) (j x : ℕ) → j < length l → j < length g → x ≡ get_or g j 0 → take j l ≡ take j g → take (j + 1) (set l j x) ≡ take (j + 1) g
take_more l g j x in_l in_g is same =
    let more : take (suc j) (set l j x) ≡ take j (set l j x) ++ x ∷ [] = take_to (set l j x) j x (set_found l j (get_or l j 0) x (at_there l j 0 in_l)) in
    let last : take (suc j) g ≡ take j g ++ get_or g j 0 ∷ [] = take_to g j (get_or g j 0) (at_there g j 0 in_g) in
    ap (λ n. take n (set l j x)) (add-one j) ∙ (more ∙ ((λ i. (take-set-le j l j x (le_refl j) ∙ same) i ++ is i ∷ []) ∙ (sym last ∙ ap (λ n. take n g) (sym (add-one j)))))

-- a store to an inline word of another cell
inline_apart : (p : Plan) (ws : List ℕ) (k j x i : ℕ) → j < NODE_WIDTH → i ≢ k → inline_words p (set ws (inline_at p k j) x) i ≡ inline_words p ws i
inline_apart p ws k j x i lt ne = inline_else p ws (inline_at p k j) x i (λ _. ⊎_elim (λ low. inr (omega arith)) (λ high. inl (omega arith)) (cases_lt i k))

module _ (m : Moment) {k j x : ℕ} (may : MayCopy k j x m.view) where
  abbrev p : Plan
  p = m.view.plan

  abbrev W : World
  W = world m

  abbrev w : Writer
  w = m.view.writer

  abbrev stored : List ℕ
  stored = set (W.inline k) j x

  abbrev inline' : ℕ → List ℕ
  inline' = set_at W.inline k stored

  abbrev after : World
  after = beside m W.version inline' W.locker W.source

  o : SeatOk p W m.id m.view
  o = seat m

  flies : Flies w
  flies = locked_flies w may.locked

  inside : k < cells p
  inside = subst (λ i. i < cells p) may.cell (o.writer.sound.cell flies)

  mine : W.locker k ≡ m.id + 1
  mine = ap W.locker (sym may.cell) ∙ (o.writer.locked may.locked).0

  abbrev image : List ℕ
  image = (claim_of OWN m.view).image

  image_wide : length image ≡ NODE_WIDTH
  image_wide = (o.claims.sound.there OWN w.node (claim_of OWN m.view) (claim_found o.claims OWN (omega arith)) (o.writer.sound.own flies)).1

  so_far : take j (W.inline k) ≡ take j image
  so_far = subst (λ (z : ℕ × ℕ). take z.0 (W.inline z.1) ≡ take z.0 image) (λ i. (may.next i, may.cell i)) (o.writer.locked may.locked).2

  then : take (w.stores + 1) (inline' w.cell) ≡ take (w.stores + 1) image
  then = let wide = inline_wide p m.ws k m.rule.wide inside in let long = image_wide in let low = may.inside in
      subst (λ (z : ℕ × ℕ). take (z.0 + 1) (inline' z.1) ≡ take (z.0 + 1) image) (λ i. (sym may.next i, sym may.cell i))
      (ap (take (j + 1)) (set_at_here W.inline k stored) ∙ take_more (W.inline k) image j x (omega arith) (omega arith) may.word so_far)

  flight : SeatWriter p (sites after) m.id m.view.seen (claim_of OWN m.view) (copied_writer w)
  flight = let s = o.writer.sound in record {
    sound = record {
      cell = s.cell;
      own = s.own;
      change = s.change;
      even = s.even;
      latest = s.latest;
      stores = λ e. let next = may.next in let low = may.inside in omega arith;
    };
    before = o.writer.before;
    last = o.writer.last;
    free = o.writer.free;
    locked = λ e. let q = o.writer.locked e in (q.0, q.1, then);
    released = o.writer.released;
    locks = o.writer.locks;
    stays = o.writer.stays;
    later = o.writer.later;
    sourced = o.writer.sourced;
  }

  -- the version is odd
  version_odd : (i : ℕ) → i ≡ k → IsEven (W.version i) → ⊥
  version_odd i same is =
      let now : W.version i ≡ w.version + 1 = ap W.version (same ∙ sym may.cell) ∙ (o.writer.locked may.locked).1 in
      let even = (o.writer.sound.even (inl may.locked)).0 in omega arith

  still : (i : ℕ) → IsEven (W.version i) → W.version i ≡ W.version i → inline' i ≡ W.inline i
  still i even same = ⊎_elim (λ e. absurd (version_odd i e even)) (λ apart. set_at_else W.inline k i stored apart) (cases_eq i k)

  leaves : (s : ℕ) (v : View) → s ≢ m.id → SeatOk p W s v → LeavesLocks s (sites W) (sites after)
  leaves s v ne ok = record {
    version = λ i. le_refl (W.version i);
    locked = λ i e. ⊎_elim
        (λ same. absurd (ne (let both : s + 1 ≡ m.id + 1 = sym e ∙ (ap W.locker same ∙ mine) in omega arith)))
        (λ apart. (e, refl, set_at_else W.inline k i stored apart))
        (cases_eq i k);
    locks = λ i e. e;
    source = λ i u le. refl;
    inline = still;
  }

  versions : (i : ℕ) → i < cells p → VersionedAt p after i
  versions i lt = ⊎_elim
      (λ same.
      let before = m.rule.versions i lt in record {
        locked = before.locked;
        dated = before.dated;
        passed = before.passed;
        copied = λ even. absurd (version_odd i same even);
        settled = before.settled;
        untouched = λ none. absurd (flight_since o (locked_flies w may.locked) 0 (omega arith) (subst (λ a. NoneOn p a W.log) (same ∙ sym may.cell) none));
      })
      (λ apart. beside_else m W.version inline' W.locker W.source i lt refl (set_at_else W.inline k i stored apart) refl (λ u. refl))
      (cases_eq i k)

  abbrev ws' : List ℕ
  ws' = set m.ws (inline_at p k j) x

  pub copy_made : Made m ws' (copied_view k j x m.view)
  copy_made = beside_made m W.version inline' W.locker W.source {ws = ws'} {made = counted (InlineStore k j x) x (length m.view.seen)} {writer = copied_writer w} (record {
    stay = inline_store p m.ws k j x inside may.inside;
    versions_are = λ i. inline_keeps_version p m.ws k j x i may.inside;
    inlines_are = λ i. ⊎_elim
        (λ same. ap (inline_words p ws') same ∙ (inline_here p m.ws k j x inside may.inside ∙ sym (ap inline' same ∙ set_at_here W.inline k stored)))
        (λ apart. inline_apart p m.ws k j x i may.inside apart ∙ sym (set_at_else W.inline k i stored apart))
        (cases_eq i k);
    wide = length-set m.ws (inline_at p k j) x;
    counted = refl;
    other = λ i e. cc;
    rises = λ i. le_refl (W.version i);
    still = still;
    flight = flight;
    leaves = leaves;
    versions = versions;
    lockers = m.rule.lockers;
  })

pub copies : (slots id : ℕ) (me : Mine) (k j x : ℕ) → 0 < length me.0.numbers → MayCopy k j x me.0
    → Allows (Holds me.0.plan) slots id me (inline_at me.0.plan k j) (λ _. x) (λ _. copied (step slots (inline_at me.0.plan k j) x 0 none) me x)
copies slots id me k j x numbered may s r _ at _ =
    let v = me.0 in
    let m = moment id me numbered s r at in
    store_owed id me numbered s r at _ (inline_at v.plan k j) x (copied_view k j x v) (copy_made m may) refl numbered
    (λ i a e lt. let q = one_inline v.plan k j i a e may.inside lt in λ c. copied_view (q.0 c) (q.1 c) x v)
