-- A change that copies its node's words.
use Rattle.std.proofs.Common.{◌≡◌, ◌∙◌, ℕ, ◌+◌, ◌^◌, ◌<◌, suc, false, List, [], ◌∷◌, ◌++◌, length, get_or, take, inr, refl, sym, ap, subst, arith}
use Rattle.std.proofs.Common.{append-nil, append_assoc}
use Rattle.std.proofs.lemmas.List.{length-take-le, take_more}
use Rattle.std.proofs.Math.Seq.{take-length}
use mathlib.Core.Option.{some}
use lib.ListN.{get_elem?}
use Rattle.cache_copy.specs.Refreshing.{FoundMoved, HasCopied, HasLock, IsInFlight, OnlyRefreshed, copied_view, copy_steps, own_words, write_steps}
use Rattle.cache_copy.specs.Refreshing.{written_view}
use Rattle.seat_history.specs.declared.entry.Entry.{Entry}
use Rattle.step_rules.proofs.Line.Trails.{goes_on_same}
use Rattle.step_rules.proofs.Numbers.Places.{at_there}
use Rattle.step_rules.proofs.Rely.Writers.{locked_flies}
use Rattle.step_rules.specs.Claims.{OWN, On}
use Rattle.step_rules.specs.Kinds.Node.{Reads}
use Rattle.step_rules.specs.Kinds.Versions.{MayCopy, MayLock, MayRelease, MayUnmark}
use Rattle.step_rules.specs.SeatData.{IsOf, IsSeat, ObjectData, SeatData}
use Rattle.step_rules.specs.Sound.{Sound}
use Rattle.step_rules.specs.Steps.{MayLoad, Sees, stepped}
use Rattle.step_rules.specs.Versions.{FoundVersion, IsEven}
use Rattle.step_rules.specs.Views.{claim_of, copied_view as stored_view, counted, locked_view, released_view, silent}
use Rattle.step_rules.specs.declared.layout.TheConstants.{NODE_WIDTH}
use Rattle.step_rules.specs.declared.view.Counted.{Counted}
use Rattle.step_rules.specs.declared.view.Kind.TheVariants.{InlineStore, MarkClear, VersionLock, VersionRelease}
use Rattle.step_rules.specs.declared.view.Stage.TheVariants.{Locked, Released}
use Rattle.step_rules.specs.declared.view.View.{View}

own_at : (v : View) → Sound v → get_elem? v.claims OWN ≡ some (claim_of OWN v)
own_at v sound = let four = sound.claims.four in at_there v.claims OWN (silent 0) (omega arith)

-- the Own claim of a change in flight stands on its node, and has its words
pub own_whole : (k n : ℕ) (v : View) → Sound v → IsInFlight k n v → length (own_words v) ≡ NODE_WIDTH
own_whole k n v sound flight = (sound.claims.there OWN v.writer.node (claim_of OWN v) (own_at v sound) (sound.writer.own flight.flies)).1

lock_flies : (k n : ℕ) (v : View) → HasLock k n v → IsInFlight k n v
lock_flies k n v lock = record { flies = locked_flies v.writer lock.locked; cell = lock.cell; node = lock.node }

steps_push : (k j i : ℕ) (ws : List ℕ) (w seen : ℕ) → i ≡ j + length ws
    → copy_steps k j (ws ++ w ∷ []) seen ≡ copy_steps k j ws seen ++ counted (InlineStore k i w) w seen ∷ []
steps_push k j i [] w seen e = let on : j ≡ i = omega arith in ap (λ m. counted (InlineStore k m w) w seen ∷ []) on
steps_push k j i (v ∷ ws) w seen e = ap (λ (l : List Counted). counted (InlineStore k j v) v seen ∷ l) (steps_push k (suc j) i ws w seen (omega arith))

-- the first j words of the node were stored
abbrev pub copied_to : ℕ → ℕ → View → View
copied_to k j v = record v { trail = v.trail ++ copy_steps k 0 (take j (own_words v)) (length v.seen); writer = record v.writer { stores = j } }

pub record IsCopying (k j : ℕ) (old now : SeatData) : Type 0 where
  pub same : now ≡ record old { view = copied_to k j old.view; fresh = now.fresh }
  pub used : 0 < j → now.fresh ≡ false
  pub law : IsSeat now

pub none_copied : (k n : ℕ) (seat : SeatData) → IsSeat seat → HasLock k n seat.view → IsCopying k 0 seat seat
none_copied k n seat law lock = record {
  same = λ i. record seat {
    view = record seat.view {
      trail = sym (append-nil seat.view.trail) i;
      writer = record seat.view.writer {
        stores = lock.none_stored i;
      };
    };
  };
  used = λ lt. absurd (omega arith);
  law = law;
}

pub copying_of : (k j : ℕ) (old now : SeatData) (shared : ObjectData) → IsCopying k j old now → IsOf shared old → IsOf shared now
copying_of k j old now shared c of = subst (IsOf shared) (sym c.same) (record { object = of.object; plan = of.plan })

-- it may read its node
pub may_glance : (k n j : ℕ) (old now : SeatData) → HasLock k n old.view → IsCopying k j old now → MayLoad n now
may_glance k n j old now lock c =
    let node : now.view.writer.node ≡ n = ap (λ (s : SeatData). s.view.writer.node) c.same ∙ lock.node in
    let locked : now.view.writer.stage ≡ Locked = ap (λ (s : SeatData). s.view.writer.stage) c.same ∙ lock.locked in
    inr (
      OWN,
      claim_of OWN now.view,
      own_at now.view c.law.sound,
      subst (On (claim_of OWN now.view)) node (c.law.sound.writer.own
          (locked_flies now.view.writer locked)),
    )

-- and the word that it finds there is the one to be stored
pub word_is : (k n j x : ℕ) (old now : SeatData) → HasLock k n old.view → IsCopying k j old now → Reads n j x now.view → x ≡ get_or (own_words old.view) j 0
word_is k n j x old now lock c reads =
    let node : now.view.writer.node ≡ n = ap (λ (s : SeatData). s.view.writer.node) c.same ∙ lock.node in
    let locked : now.view.writer.stage ≡ Locked = ap (λ (s : SeatData). s.view.writer.stage) c.same ∙ lock.locked in
    reads.claim OWN (claim_of OWN now.view) (own_at now.view c.law.sound) (subst (On (claim_of OWN now.view)) node
    (c.law.sound.writer.own (locked_flies now.view.writer locked)))
    ∙ ap (λ (s : SeatData). get_or (own_words s.view) j 0) c.same

-- a glance leaves all as it is
pub glanced : (k j : ℕ) (old seat now : SeatData) → IsCopying k j old seat → now ≡ stepped seat.view seat → IsSeat now → IsCopying k j old now
glanced k j old seat now c after law = record {
  same = subst (λ (s : SeatData). s ≡ record old { view = copied_to k j old.view; fresh = s.fresh }) (sym after) (ap (λ (s : SeatData). stepped s.view s)
      c.same);
  used = λ _. ap (λ (s : SeatData). s.fresh) after;
  law = law;
}

pub may_copy : (k n j x : ℕ) (old now : SeatData) → HasLock k n old.view → IsCopying k j old now → j < NODE_WIDTH → x ≡ get_or (own_words old.view) j 0
    → MayCopy k j x now.view
may_copy k n j x old now lock c low is = subst (λ (s : SeatData). MayCopy k j x s.view) (sym c.same) (record {
  locked = lock.locked;
  cell = lock.cell;
  next = refl;
  inside = low;
  word = is;
})

pub one_copied : (k n j x : ℕ) (old seat now : SeatData) → Sound old.view → HasLock k n old.view → IsCopying k j old seat → j < NODE_WIDTH
    → x ≡ get_or (own_words old.view) j 0
    → now ≡ stepped (stored_view k j x seat.view) seat → IsSeat now → IsCopying k (j + 1) old now
one_copied k n j x old seat now sound lock c low is after law =
    let ws = own_words old.view in
    let whole = own_whole k n old.view sound (lock_flies k n old.view lock) in
    let seen = length old.view.seen in
    let front : take (j + 1) ws ≡ take j ws ++ x ∷ [] = take_more ws j 0 (omega arith) ∙ ap (λ w. take j ws ++ w ∷ []) (sym is) in
    let more : copy_steps k 0 (take (j + 1) ws) seen ≡ copy_steps k 0 (take j ws) seen ++ counted (InlineStore k j x) x seen ∷ [] =
    ap (λ l. copy_steps k 0 l seen) front ∙ steps_push k 0 j (take j ws) x seen (omega (arith, length-take-le j ws (omega arith))) in
    record {
      same = subst (λ (s : SeatData). s ≡ record old { view = copied_to k (j + 1) old.view; fresh = s.fresh }) (sym after)
          (ap (λ (s : SeatData). stepped (stored_view k j x s.view) s) c.same
          ∙ ap (λ (t : List Counted). stepped (record (copied_to k (j + 1) old.view) { trail = t }) old)
          (append_assoc old.view.trail (copy_steps k 0 (take j ws) seen) (counted (InlineStore k j x) x seen ∷ [])
          ∙ ap (λ (t : List Counted). old.view.trail ++ t) (sym more)));
      used = λ _. ap (λ (s : SeatData). s.fresh) after;
      law = law;
    }

pub all_copied : (k n : ℕ) (old now : SeatData) → Sound old.view → HasLock k n old.view → IsCopying k NODE_WIDTH old now
    → now ≡ stepped (copied_view k old.view) old
all_copied k n old now sound lock c = c.same ∙ (λ i. record old {
  view = record (copied_to k NODE_WIDTH old.view) { trail = old.view.trail ++ copy_steps k 0 (all i) (length old.view.seen) };
  fresh = c.used (omega arith) i;
})
  where
    all : take NODE_WIDTH (own_words old.view) ≡ own_words old.view
    all = ap (λ m. take m (own_words old.view)) (sym (own_whole k n old.view sound (lock_flies k n old.view lock))) ∙ take-length (own_words old.view)

-- a change in flight locks, copies, releases and clears
pub may_lock : (k n u : ℕ) (v : View) → IsInFlight k n v → IsEven u → u < 2 ^ 63 → FoundVersion k u v.writer.before → MayLock k u v
may_lock k n u v flight even small found = record { flies = flight.flies; cell = flight.cell; even = even; small = small; found = found }

pub has_lock : (k n u : ℕ) (before locked : SeatData) → IsInFlight k n before.view → locked ≡ stepped (locked_view k u before.view) before
    → HasLock k n locked.view
has_lock k n u before locked flight after = subst (λ (s : SeatData). HasLock k n s.view) (sym after)
    (record { locked = refl; cell = flight.cell; node = flight.node; none_stored = refl })

pub may_release : (k n u : ℕ) (before locked copied : SeatData) → IsInFlight k n before.view → locked ≡ stepped (locked_view k u before.view) before
    → copied ≡ stepped (copied_view k locked.view) locked → MayRelease k u copied.view
may_release k n u before locked copied flight first second =
    subst (λ (s : SeatData). MayRelease k u s.view) (sym (second ∙ ap (λ (s : SeatData). stepped (copied_view k s.view) s) first)) (record {
      locked = refl;
      cell = flight.cell;
      version = refl;
      stores = refl;
    })

pub written_at : (k u : ℕ) (before locked copied now : SeatData) → locked ≡ stepped (locked_view k u before.view) before
    → copied ≡ stepped (copied_view k locked.view) locked
    → now ≡ stepped (released_view k u copied.view) copied → now ≡ stepped (written_view k u before.view) before
written_at k u before locked copied now first second third =
    let n = length before.view.seen in
    let t = before.view.trail in
    let stores = copy_steps k 0 (own_words before.view) n in
    let release : List Counted = counted (VersionRelease k u) (u + 2) n ∷ [] in
    third ∙ (ap (λ (s : SeatData). stepped (released_view k u s.view) s) (second ∙ ap (λ (s : SeatData). stepped (copied_view k s.view) s) first)
    ∙ ap (λ (z : List Counted). stepped (record (written_view k u before.view) { trail = z }) before)
    (ap (λ (z : List Counted). z ++ release) (append_assoc t (counted (VersionLock k u) u n ∷ []) stores)
    ∙ append_assoc t (counted (VersionLock k u) u n ∷ stores) release))

pub may_unmark : (k n u : ℕ) (before now : SeatData) → IsInFlight k n before.view → now ≡ stepped (written_view k u before.view) before → MayUnmark k n now.view
may_unmark k n u before now flight after = subst (λ (s : SeatData). MayUnmark k n s.view) (sym after)
    (record { released = refl; cell = flight.cell; node = flight.node })

pub copied_at : (k n u x : ℕ) (before written now : SeatData) → Sound before.view → IsInFlight k n before.view → IsEven u → u < 2 ^ 63
    → written ≡ stepped (written_view k u before.view) before → Sees (MarkClear k n) k x written now → HasCopied k n u x before now
copied_at k n u x before written now sound flight even small after sees =
    let clear = subst (λ (s : SeatData). Sees (MarkClear k n) k x s now) after sees in
    let l = clear.looks in
    let steps = write_steps k u (own_words before.view) (length before.view.seen) in
    record {
      even = even;
      small = small;
      whole = own_whole k n before.view sound flight;
      clear = clear;
      trail = ap (λ (v : View). v.trail) l.after ∙ (append_assoc before.view.trail steps (counted (MarkClear k n) x (length l.log) ∷ [])
          ∙ ap (λ (s : List Entry). before.view.trail ++ (steps ++ counted (MarkClear k n) x (length s) ∷ [])) (sym (ap (λ (v : View). v.seen) l.after)));
      writer = ap (λ (v : View). v.writer) l.after;
    }

-- what stays of the seat
pub only_none : {before now : SeatData} → now ≡ before → OnlyRefreshed before now
only_none {before = before} same = subst (OnlyRefreshed before) (sym same) (record { same = refl; seen = goes_on_same before.view.seen; unlocked = λ h. h })

pub only_moved : {k u : ℕ} {before now : SeatData} → FoundMoved k u before now → OnlyRefreshed before now
only_moved {before = before} h = subst (OnlyRefreshed before) (sym h.after) (record { same = refl; seen = goes_on_same before.view.seen; unlocked = λ h. h })

pub only_copied : {k n u x : ℕ} {before now : SeatData} → HasCopied k n u x before now → OnlyRefreshed before now
only_copied {k = k} {u = u} {before = before} h =
    let l = h.clear.looks in
    let written = stepped (written_view k u before.view) before in
    subst (OnlyRefreshed before) (sym (h.clear.same ∙ ap (λ (v : View). stepped v written) l.after)) (record {
      same = refl;
      seen = (l.rest, l.seen);
      unlocked = λ _ e. let q : Released ≡ Locked = e in cc;
    })
