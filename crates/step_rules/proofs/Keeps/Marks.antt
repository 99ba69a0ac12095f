-- MARK CLEAR keeps the rule.
use Rattle.std.proofs.Common.{◌≡◌, ◌==◌, ℕ, ◌+◌, ◌*◌, ◌/◌, ◌<◌, ◌≤◌, List, [], length, drop, get_or, set, refl, sym, ap, ◌∙◌, subst, arith, le_refl, append-nil}
use Rattle.std.proofs.Common.{⊎_elim, inr}
use Rattle.std.proofs.lemmas.Bool.{cases_eq}
use Rattle.std.proofs.lemmas.List.{length-set}
use mathlib.Core.Option.{none}
use prog.Atomic.{either}
use Rattle.atomic_table.proofs.Lists.{exchanged as by_hit}
use Rattle.atomic_table.specs.Table.{Act, step, stepped, Allows, Valid, carried_after}
use Rattle.seat_history.proofs.Changed.{set_at_here}
use Rattle.seat_history.specs.Contents.{set_at}
use Rattle.seat_history.specs.declared.call.Call.{Call}
use Rattle.step_rules.specs.History.{NoneOn}
use Rattle.step_rules.specs.Kinds.Backup.{Looks}
use Rattle.step_rules.specs.Kinds.Versions.{MayUnmark}
use Rattle.step_rules.specs.Layout.{backup_at, cells}
use Rattle.step_rules.specs.Plays.{Mine, unmarked}
use Rattle.step_rules.specs.Rule.{Holds, backup_word, world_of}
use Rattle.step_rules.specs.Seats.{Leaves, SeatOk}
use Rattle.step_rules.specs.Versions.{VersionedAt}
use Rattle.step_rules.specs.World.{World}
use Rattle.step_rules.specs.Writers.{Flies, sites}
use Rattle.step_rules.specs.declared.plan.Plan.{Plan}
use Rattle.step_rules.specs.declared.view.Kind.TheVariants.{MarkClear}
use Rattle.step_rules.specs.declared.view.View.{View}
use Rattle.step_rules.specs.declared.view.Writer.{Writer}
use Rattle.step_rules.proofs.Keeps.Exchanges.{backup_low, backup_one, claim_apart}
use Rattle.step_rules.proofs.Rely.Advance.{stable}
use Rattle.step_rules.proofs.Rely.Flights.{flight_since, released_is}
use Rattle.step_rules.proofs.Rely.Moments.{Made, Moment, advance, load_owed, moment, seat, store_owed, world}
use Rattle.step_rules.proofs.Rely.Seeing.{seeing, sees, sees_seat, sees_told}
use Rattle.step_rules.proofs.Rely.Writers.{locks_stay, released_flies}
use Rattle.step_rules.proofs.World.Chains.{cell_stays}
use Rattle.step_rules.proofs.World.Frames.{backup_else, backup_here, backup_is, backup_store, claim_else, is_set, node_low, one_cell, set_at_else}

pub unmark_inside : (m : Moment) {k n : ℕ} → MayUnmark k n m.view → k < cells m.view.plan
unmark_inside m may = subst (λ j. j < cells m.view.plan) may.cell ((seat m).writer.sound.cell (released_flies m.view.writer may.released))

-- the mark is there
module _ (m : Moment) {k n : ℕ} (may : MayUnmark k n m.view) (hit : backup_word m.view.plan m.ws k ≡ 2 * n + 1) where
  abbrev p : Plan
  p = m.view.plan

  abbrev W : World
  W = world m

  abbrev w : Writer
  w = m.view.writer

  abbrev backup' : ℕ → ℕ
  backup' = set_at W.backup k (2 * n)

  abbrev after : World
  after = record W { backup = backup' }

  abbrev ws' : List ℕ
  ws' = set m.ws (backup_at p k) (2 * n)

  o : SeatOk p W m.id m.view
  o = seat m

  inside : k < cells p
  inside = unmark_inside m may

  is : world_of p ws' m.unwritten ≡ after
  is = λ j. record {
    class = W.class;
    node = λ i. node_low p m.ws (backup_at p k) (2 * n) i (backup_low p k inside) j;
    backup = is_set W.backup (backup_word p ws') k (2 * n) (let wide = m.rule.wide in backup_here p m.ws k (2 * n) inside (omega arith))
        (λ i ne. backup_else p m.ws (backup_at p k) (2 * n) i (λ _. backup_one p i k ne)) j;
    chain = W.chain;
    holder = W.holder;
    log = W.log;
    word = λ i. claim_else p m.ws (backup_at p k) (2 * n) i (λ lt. claim_apart p k i lt) j;
    guard = W.guard;
    version = λ i. (backup_store p m.ws k (2 * n)).version i j;
    inline = λ i. (backup_store p m.ws k (2 * n)).inline i j;
    locker = W.locker;
    source = W.source;
  }

  -- each cell keeps its node, and its mark at most goes
  same_node : (j : ℕ) → backup' j / 2 ≡ W.backup j / 2
  same_node j = ⊎_elim
      (λ same. let now : W.backup j ≡ 2 * n + 1 = ap W.backup same ∙ hit in let then : backup' j ≡ 2 * n = ap backup' same ∙ set_at_here W.backup k (2 * n) in omega arith)
      (λ apart. ap (λ b. b / 2) (set_at_else W.backup k j (2 * n) apart))
      (cases_eq j k)

  falls : (j : ℕ) → backup' j ≤ W.backup j
  falls j = ⊎_elim
      (λ same. let now : W.backup j ≡ 2 * n + 1 = ap W.backup same ∙ hit in let then : backup' j ≡ 2 * n = ap backup' same ∙ set_at_here W.backup k (2 * n) in omega arith)
      (λ apart. let stays = set_at_else W.backup k j (2 * n) apart in omega arith)
      (cases_eq j k)

  -- so it leaves each seat all that it knows, the own one too
  leaves : (s : ℕ) (numbers : List ℕ) → Leaves p s numbers W after []
  leaves s numbers = record {
    log = sym (append-nil W.log);
    by = λ y h. tt;
    holder = λ y h. h;
    own = λ i h. h;
    words = λ i h. refl;
    retired = λ i h. h;
    word = λ y c h lt. refl;
    guard = λ y c h lt. refl;
    quiet = λ i j h e. e;
    image = λ y c i h lt e. refl;
    taken = λ y c i t h lt e own. own;
    same = λ j h. same_node j;
    falls = λ j h. falls j;
    chain = λ j h. refl;
    fresh = λ y c i j h lt e names. tt;
    locks = locks_stay s (sites W) (sites after) (λ j. refl) (λ j. refl) (λ j. refl) (λ j u. refl);
  }

  flies : Flies w
  flies = released_flies w may.released

  -- the released change is the cell's last one, and its version is there
  done : (W.version k ≡ w.version + 2) × NoneOn p k (drop (W.source k (w.version + 2)) W.log)
  done = subst (λ j. (W.version j ≡ w.version + 2) × NoneOn p j (drop (W.source j (w.version + 2)) W.log)) may.cell
      (released_is o may.released (m.rule.versions w.cell (o.writer.sound.cell flies)) (ap (λ j. W.backup j / 2) may.cell ∙ (omega (arith, hit) ∙ sym may.node)))

  versions : (j : ℕ) → j < cells p → VersionedAt p after j
  versions j lt = let before = m.rule.versions j lt in record {
    locked = before.locked;
    dated = before.dated;
    passed = before.passed;
    copied = λ even still. before.copied even still ∙ ap W.node (sym (same_node j));
    settled = λ even. ⊎_elim
        (λ same.
        let now : W.version j ≡ w.version + 2 = ap W.version same ∙ done.0 in
        let is = (o.writer.sound.even (inr may.released)).0 in (
          omega arith,
          subst (λ (z : ℕ × ℕ). NoneOn p z.0 (drop z.1 W.log)) (λ i. (sym same i, sym (λ t. W.source (same t) (now t)) i)) done.1,
        ))
        (λ apart. let stays = set_at_else W.backup k j (2 * n) apart in before.settled (omega arith))
        (cases_eq j k);
    untouched = λ none. ⊎_elim
        (λ same. absurd (flight_since o flies 0 (omega arith) (subst (λ i. NoneOn p i W.log) (same ∙ sym may.cell) none)))
        (λ apart. let u = before.untouched none in
        record { version_is = u.version_is; backup_is = set_at_else W.backup k j (2 * n) apart ∙ u.backup_is; inline_are = u.inline_are; node_are = u.node_are })
        (cases_eq j k);
  }

  abbrev pub unmarking : View
  unmarking = seeing m (MarkClear k n) k (unmark_inside m may)

  pub unmark_made : Made m ws' unmarking
  unmark_made = advance m ws' m.unwritten after [] unmarking (record {
    is = is;
    wide = length-set m.ws (backup_at p k) (2 * n) ∙ m.rule.wide;
    own = stable (sees_seat m (MarkClear k n) k inside (λ j e. cc)) after [] (leaves m.id m.view.numbers);
    others = λ s u ne ok. leaves s u.numbers;
    versions = versions;
    cells = record { cell = λ j lt. cell_stays W after refl (same_node j) refl (λ i h. (h, refl)) (m.rule.cells.cell j lt) };
    guards = m.rule.guards;
    history = m.rule.history;
    lockers = m.rule.lockers;
    budget = le_refl (length W.log + m.view.changes);
  })

half_of : (n i : ℕ) → 2 * n + 1 ≡ 2 * i + 1 → n ≡ i
half_of n i e = omega arith

pub unmarks : (slots id : ℕ) (me : Mine) (k n : ℕ) → 0 < length me.0.numbers → MayUnmark k n me.0
    → Allows (Holds me.0.plan) slots id me (backup_at me.0.plan k) (λ y. either (y == (2 * n + 1)) (2 * n) y)
    (unmarked (step slots (backup_at me.0.plan k) (2 * n + 1) (2 * n) none) me)
unmarks slots id me k n numbered may s r _ at _ =
    let v = me.0 in
    let m = moment id me numbered s r at in
    let place = backup_at v.plan k in
    let inside = unmark_inside m may in
    let named = backup_is v.plan s.words k inside in
    let w = seeing m (MarkClear k n) k inside in
    let told : (j i : ℕ) → place ≡ backup_at v.plan j → 2 * n + 1 ≡ 2 * i + 1 → Looks (MarkClear j i) j (get_or s.words place 0) v w =
    λ j i word first. subst (λ (q : ℕ × ℕ × ℕ). Looks (MarkClear q.0 q.1) q.0 q.2 v w) (λ t. (one_cell v.plan k j word t, half_of n i first t, sym named t))
    (sees_told m (MarkClear k n) k inside) in
    by_hit (get_or s.words place 0) (2 * n + 1) (2 * n)
    (λ (z : ℕ). (u : View) × (a : Act Call) × Valid s.homes me.1 a × Holds v.plan (stepped s place z id me.1 u a)
    × unmarked (step slots place (2 * n + 1) (2 * n) none) me (get_or s.words place 0) (u, carried_after me.1 a))
    (λ hit. store_owed id me numbered s r at _ place (2 * n) w (unmark_made m may (sym named ∙ hit)) refl numbered told)
    (λ miss. load_owed id me numbered s r at _ place w (sees m (MarkClear k n) k inside (λ j e. cc)) refl numbered told)
