-- A step of a seat: the table before it, what its kind shows of the table after it, and what it owes.
use Rattle.std.proofs.Common.{◌≡◌, ◌≢◌, ℕ, ◌+◌, ◌*◌, ◌<◌, ◌≤◌, zero, suc, List, [], ◌∷◌, length, length-append, set, get_or, sum_by, ⊎_elim, refl, sym, ap}
use Rattle.std.proofs.Common.{◌∙◌, subst, arith}
use Rattle.std.proofs.lemmas.List.{length-set, set-get_or}
use Rattle.std.proofs.lemmas.List.Sums.{sum_by-cons}
use mathlib.Core.Option.{some, some-ne-none}
use lib.ListN.{get_elem?}
use Rattle.atomic_table.proofs.Lists.{at_set}
use Rattle.atomic_table.specs.Table.{Act, State, Valid, carried_after, keeps, stepped}
use Rattle.seat_history.specs.declared.call.Call.{Call}
use Rattle.seat_history.specs.declared.entry.Entry.{Entry}
use Rattle.step_rules.proofs.Rely.Advance.{stable}
use Rattle.step_rules.proofs.World.Contents.{history_before}
use Rattle.step_rules.proofs.World.Handing.{handed_leaves}
use Rattle.step_rules.specs.Cells.{CellsAgree}
use Rattle.step_rules.specs.Claims.{Guards}
use Rattle.step_rules.specs.History.{IsHistory}
use Rattle.step_rules.specs.Layout.{IsPlan, cells, words}
use Rattle.step_rules.specs.Plays.{Mine, Told}
use Rattle.step_rules.specs.Rule.{Holds, HoldsAt, world_of}
use Rattle.step_rules.specs.Seats.{Leaves, SeatOk}
use Rattle.step_rules.specs.Sound.{Sound}
use Rattle.step_rules.specs.Versions.{VersionedAt}
use Rattle.step_rules.specs.World.{Unwritten, World}
use Rattle.step_rules.specs.declared.plan.Plan.{Plan}
use Rattle.step_rules.specs.declared.view.View.{View}

-- a sum after one view changes
pub total_set : {A : Type 0} (f : A → ℕ) (vs : List A) (id : ℕ) (v w : A) → get_elem? vs id ≡ some v → sum_by f (set vs id w) + f v ≡ sum_by f vs + f w
total_set f [] id v w e = cc
total_set f (x ∷ xs) zero v w e = let h : x ≡ v = cc in omega (arith, sum_by-cons f x xs, sum_by-cons f w xs, ap f h)
total_set f (x ∷ xs) (suc id) v w e = omega (arith, total_set f xs id v w e, sum_by-cons f x xs, sum_by-cons f x (set xs id w))

-- one view's part of a sum
pub total_part : {A : Type 0} (f : A → ℕ) (vs : List A) (id : ℕ) (v : A) → get_elem? vs id ≡ some v → f v ≤ sum_by f vs
total_part f [] id v e = cc
total_part f (x ∷ xs) zero v e = let h : x ≡ v = cc in omega (arith, sum_by-cons f x xs, ap f h)
total_part f (x ∷ xs) (suc id) v e = omega (arith, total_part f xs id v e, sum_by-cons f x xs)

-- a store where something stands is found there
pub set_found : {A : Type 0} (l : List A) (i : ℕ) (a b : A) → get_elem? l i ≡ some a → get_elem? (set l i b) i ≡ some b
set_found [] i a b e = absurd (some-ne-none a (sym e))
set_found (x ∷ xs) zero a b e = refl
set_found (x ∷ xs) (suc i) a b e = set_found xs i a b e

-- what a seat whose view the rule holds for knows of it
sound_of : (W : World) (id : ℕ) (v : View) → IsPlan v.plan → SeatOk v.plan W id v → IsHistory v.plan W.log → length W.log + v.changes ≤ v.plan.seats * v.plan.changes
    → 0 < length v.numbers → Sound v
sound_of W id v plan ok history budget numbered = record {
  plan = plan;
  some_number = numbered;
  below = ok.numbers.below;
  once = ok.numbers.once;
  node = ok.nodes.there;
  own_once = ok.nodes.once;
  retired_once = ok.nodes.retired_once;
  retired = ok.nodes.retired_there;
  stock = ok.stock;
  history = history_before v.plan v.seen ok.seen.rest (subst (IsHistory v.plan) ok.seen.whole history);
  earlier = ok.earlier;
  lawful = ok.lawful;
  trail = ok.trail;
  look = ok.look.is;
  claims = ok.claims.sound;
  scan = ok.scan.sound;
  writer = ok.writer.sound;
  reader = ok.reader.sound;
  within = let parts = ap (length {A = Entry}) ok.seen.whole ∙ length-append v.seen ok.seen.rest in omega arith;
}

pub sound_at : (ws : List ℕ) (vs : List View) (U : Unwritten) (id : ℕ) (v : View) → HoldsAt v.plan ws vs U → get_elem? vs id ≡ some v → 0 < length v.numbers → Sound v
sound_at ws vs U id v h at numbered = sound_of (world_of v.plan ws U) id v h.plan (h.seats id v at) h.history
    (let b = h.budget in let t = total_part (λ (u : View). u.changes) vs id v at in omega arith) numbered

-- the table between two steps, and a seat of it
pub record Moment : Type 0 where
  pub ws : List ℕ
  pub vs : List View
  pub unwritten : Unwritten
  pub id : ℕ
  pub view : View
  pub rule : HoldsAt view.plan ws vs unwritten
  pub at : get_elem? vs id ≡ some view
  pub numbered : 0 < length view.numbers

abbrev pub world : Moment → World
world m = world_of m.view.plan m.ws m.unwritten

pub seat : (m : Moment) → SeatOk m.view.plan (world m) m.id m.view
seat m = m.rule.seats m.id m.view m.at

-- a seat at work in a table, as its call finds it
abbrev pub moment : (id : ℕ) (me : Mine) → 0 < length me.0.numbers → (s : State Call View) → Holds me.0.plan s → get_elem? s.views id ≡ some me.0 → Moment
moment id me numbered s holds at = record {
  ws = s.words;
  vs = s.views;
  unwritten = holds.unwritten;
  id = id;
  view = me.0;
  rule = holds.at;
  at = at;
  numbered = numbered;
}

-- the seat made a step after which the words and its view are these, and the rule holds
pub record Made (m : Moment) (ws : List ℕ) (view : View) : Type 0 where
  pub unwritten : Unwritten
  pub rule : HoldsAt m.view.plan ws (set m.vs m.id view) unwritten

-- what a kind of step shows: of the world after it, of the seat in it, and what it leaves to the other seats
pub record Shows (m : Moment) (ws : List ℕ) (U : Unwritten) (W : World) (more : List Entry) (view : View) : Type 0 where
  pub is : world_of m.view.plan ws U ≡ W
  pub wide : length ws ≡ words m.view.plan
  pub own : SeatOk m.view.plan W m.id view
  pub others : (s : ℕ) (u : View) → s ≢ m.id → SeatOk m.view.plan (world m) s u → Leaves m.view.plan s u.numbers (world m) W more
  pub versions : (k : ℕ) → k < cells m.view.plan → VersionedAt m.view.plan W k
  pub cells : CellsAgree m.view.plan W
  pub guards : Guards m.view.plan W.word W.guard
  pub history : IsHistory m.view.plan W.log
  pub lockers : (k s : ℕ) → W.locker k ≡ s + 1 → s < length m.vs
  pub budget : length W.log + view.changes ≤ length m.unwritten.log + m.view.changes

pub advance : (m : Moment) (ws : List ℕ) (U : Unwritten) (W : World) (more : List Entry) (view : View) → Shows m ws U W more view → Made m ws view
advance m ws U W more view shows = record {
  unwritten = U;
  rule = record {
    plan = m.rule.plan;
    wide = shows.wide;
    history = subst (λ (V : World). IsHistory m.view.plan V.log) (sym shows.is) shows.history;
    cells = subst (CellsAgree m.view.plan) (sym shows.is) shows.cells;
    guards = subst (λ (V : World). Guards m.view.plan V.word V.guard) (sym shows.is) shows.guards;
    seats = λ s u at. subst (λ (V : World). SeatOk m.view.plan V s u) (sym shows.is) (each s u at);
    versions = λ k lt. subst (λ (V : World). VersionedAt m.view.plan V k) (sym shows.is) (shows.versions k lt);
    lockers = λ k s e. let low = shows.lockers k s (ap (λ (V : World). V.locker k) (sym shows.is) ∙ e) in omega (arith, length-set m.vs m.id view);
    budget = let log : length U.log ≡ length W.log = ap (λ (V : World). length V.log) shows.is in
        let now = shows.budget in let before = m.rule.budget in let t = total_set (λ (u : View). u.changes) m.vs m.id m.view view m.at in omega arith;
  };
}
  where
    each : (s : ℕ) (u : View) → get_elem? (set m.vs m.id view) s ≡ some u → SeatOk m.view.plan W s u
    each s u at = ⊎_elim
        (λ (t : (s ≡ m.id) × (view ≡ u)). subst (λ (z : ℕ × View). SeatOk m.view.plan W z.0 z.1) (λ k. (sym t.0 k, t.1 k)) shows.own)
        (λ (t : (s ≢ m.id) × (get_elem? m.vs s ≡ some u)). let ok = m.rule.seats s u t.1 in stable ok W more (shows.others s u t.0 ok))
        (at_set m.vs m.id s view u at)

-- a step that changes no word, and no fact but the seat's own
pub own_step : (m : Moment) (view : View) → SeatOk m.view.plan (world m) m.id view → view.changes ≤ m.view.changes → Made m m.ws view
own_step m view own budget = advance m m.ws m.unwritten (world m) [] view (record {
  is = refl;
  wide = m.rule.wide;
  own = own;
  others = λ s u apart ok. handed_leaves m.view.plan (world m) m.id m.unwritten.class m.unwritten.holder
      (record { stays = λ n c f g e. e; taken = λ w n t g f e. e; held = λ t x f e. e }) s u apart ok;
  cells = m.rule.cells;
  guards = m.rule.guards;
  history = m.rule.history;
  versions = m.rule.versions;
  lockers = m.rule.lockers;
  budget = omega arith;
})

-- what a step's play is owed: the view after it, the rule, and what is told of the view
module _ (id : ℕ) (me : Mine) (numbered : 0 < length me.0.numbers) (s : State Call View) (holds : Holds me.0.plan s) (at : get_elem? s.views id ≡ some me.0) (Fact : View → Type 0) where
  pub store_owed : (i x : ℕ) (view : View) → Made (moment id me numbered s holds at) (set s.words i x) view → view.plan ≡ me.0.plan → 0 < length view.numbers → Fact view
      → (w : View) × (a : Act Call) × Valid s.homes me.1 a × Holds me.0.plan (stepped s i x id me.1 w a) × Told me (w, carried_after me.1 a) (Fact w)
  store_owed i x view made plan some_number told = (
    view,
    keeps,
    tt,
    record { unwritten = made.unwritten; at = made.rule },
    (
      refl,
      sound_at (set s.words i x) (set s.views id view) made.unwritten id view (subst (λ (p : Plan). HoldsAt p (set s.words i x) (set s.views id view) made.unwritten) (sym plan) made.rule)
          (set_found s.views id me.0 view at) some_number,
      told,
    ),
  )

  pub load_owed : (i : ℕ) (view : View) → Made (moment id me numbered s holds at) s.words view → view.plan ≡ me.0.plan → 0 < length view.numbers → Fact view
      → (w : View) × (a : Act Call) × Valid s.homes me.1 a × Holds me.0.plan (stepped s i (get_or s.words i 0) id me.1 w a) × Told me (w, carried_after me.1 a) (Fact w)
  load_owed i view made plan some_number told = store_owed i (get_or s.words i 0) view
      (subst (λ (l : List ℕ). Made (moment id me numbered s holds at) l view) (sym (set-get_or s.words i 0)) made) plan some_number told
