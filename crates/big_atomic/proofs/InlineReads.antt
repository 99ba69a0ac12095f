-- Reads of a cell's inline words in a call, and the steps that follow them.
use Rattle.std.proofs.Common.{◌≡◌, ◌≢◌, ◌∙◌, ℕ, ◌+◌, ◌≤◌, suc, Bool, true, false, cond, List, [], ◌∷◌, ◌++◌, Option, Some, None, ◌⊎◌}
use Rattle.std.proofs.Common.{length, drop, filter, append_assoc, length-append, refl, sym, ap, subst, arith, inl, inr, ⊎_elim, eq-eqb}
use Rattle.std.specs.Prelude.{slice_index}
use Rattle.big_atomic.proofs.Answered.{MayEnd}
use Rattle.big_atomic.proofs.Claimed.{looks_then, stays_then}
use Rattle.big_atomic.proofs.Goings.{few_before, few_then, looked_more, only_then}
use Rattle.big_atomic.proofs.Marking.{among_more}
use Rattle.big_atomic.proofs.Pacing.{paces_then}
use Rattle.big_atomic.proofs.Paid.{AreStill, claim_stores-append, exchanges-append, last_look-append, lost-append}
use Rattle.big_atomic.proofs.Paid.{node_stores-append, paid_then, rounds-append, scan_loads-append}
use Rattle.big_atomic.proofs.Paid.{still_exchanges, still_first, still_last, still_lost, still_rounds}
use Rattle.big_atomic.specs.Calling.{AreLooks, Goes, HasSeen, IsLooked, OnlySteps, Stays}
use Rattle.big_atomic.specs.Reads.{ClaimsAreCaused, FoundTwoVersions, IsInlineRead, ReadFailed}
use Rattle.big_atomic.specs.Turns.{TurnsArePaid, changes_on, claim_rounds, claim_stores, is_claim_store, is_lost}
use Rattle.big_atomic.specs.Turns.{last_look, lost_steps, node_stores, scan_loads}
use Rattle.cache_copy.specs.Reading.{OnlyRead, ReadsInline, inline_steps, read_steps}
use Rattle.cache_copy.specs.declared.answers.Inline.{Inline}
use Rattle.cache_copy.specs.declared.answers.Inline.TheVariants.{Changed, Marked, Odd, Words}
use Rattle.seat_history.specs.declared.call.Call.{Call}
use Rattle.seat_history.specs.declared.entry.Entry.{Entry}
use Rattle.seat_history.specs.declared.reply.Reply.{Reply}
use Rattle.seat_history.specs.declared.reply.Reply.TheVariants.{Full}
use Rattle.seat_history.specs.declared.words.TheConstants.{WIDTH}
use Rattle.step_rules.proofs.Line.Trails.{longer_seen}
use Rattle.step_rules.proofs.Rely.Advance.{goes_further}
use Rattle.step_rules.proofs.Ties.Notes.{only_stepped}
use Rattle.step_rules.specs.History.{cell_of}
use Rattle.step_rules.specs.Kinds.Standing.{first_look, is_look}
use Rattle.step_rules.specs.Lawful.{IsRight}
use Rattle.step_rules.specs.SeatData.{IsOf, IsSeat, ObjectData, SeatData}
use Rattle.step_rules.specs.Views.{claim_of, counted, number, reading, stock}
use Rattle.step_rules.specs.declared.plan.Plan.{Plan}
use Rattle.step_rules.specs.declared.view.Counted.{Counted}
use Rattle.step_rules.specs.declared.view.Kind.TheVariants.{BackupLoad, VersionAgain, VersionLoad}
use Rattle.step_rules.specs.declared.view.View.{View}

-- CLAIM STORES
-- a store of a claim behind steps that store none
store_behind : (a b front back : List Counted) (step : Counted) → claim_stores a ≡ 0 → a ++ b ≡ front ++ step ∷ back → is_claim_store step.kind ≡ true
    → (rest : List Counted) × (front ≡ a ++ rest)
store_behind [] b front back step none e stores = (front, refl)
store_behind (s ∷ a) b [] back step none e stores =
    let is : s ≡ step = cc in
    let rest = filter (λ (c : Counted). is_claim_store c.kind) a in
    absurd (omega (arith, ap (λ (x : Bool). length (cond x (s ∷ rest) rest)) (ap (λ (c : Counted). is_claim_store c.kind) is ∙ stores)))
store_behind (s ∷ a) b (f ∷ front) back step none e stores =
    let is : s ≡ f = cc in
    let later : a ++ b ≡ front ++ step ∷ back = cc in
    let h = store_behind a b front back step (fewer (is_claim_store s.kind) none) later stores in
    (h.0, (λ i. sym is i ∷ h.1 i))
  where
    fewer : (x : Bool) → length (cond x (s ∷ filter (λ (c : Counted). is_claim_store c.kind) a) (filter (λ (c : Counted). is_claim_store c.kind) a)) ≡ 0 → claim_stores a ≡ 0
    fewer true none = absurd (omega arith)
    fewer false none = none

-- once steps that store no claim show a cause, which further steps don't take away, all that follow may store one
pub caused_after : (cause : List Counted → Type 0) (a b : List Counted) → ((more : List Counted) → cause a → cause (a ++ more)) → claim_stores a ≡ 0 → cause a
    → ClaimsAreCaused cause (a ++ b)
caused_after cause a b keeps none shown = record {
  each = λ front back step e stores. let h = store_behind a b front back step none e stores in subst cause (sym h.1) (keeps h.0 shown);
}

-- steps that store no claim need no cause
pub caused_none : (cause : List Counted → Type 0) (a : List Counted) → claim_stores a ≡ 0 → ClaimsAreCaused cause a
caused_none cause a none = record {
  each = λ front back step e stores. absurd (let n = ap claim_stores e in
      let parts = claim_stores-append front (step ∷ back) in
      let rest = filter (λ (c : Counted). is_claim_store c.kind) back in
      omega (arith, ap (λ (x : Bool). length (cond x (step ∷ rest) rest)) stores));
}

-- further steps leave a read failed
pub failed_more : {k : ℕ} (a more : List Counted) → ReadFailed k a → ReadFailed k (a ++ more)
failed_more {k} a more failed = ⊎_elim
    (λ h. inl (h.0, h.1, among_more a more h.2))
    (λ r. inr (⊎_elim (λ h. inl (h.0, h.1, among_more a more h.2)) (λ h. inr (two_more a more h)) r))
    failed
  where
    two_more : (a more : List Counted) → FoundTwoVersions k a → FoundTwoVersions k (a ++ more)
    two_more a more h = record {
      front = h.front;
      version = h.version;
      saw = h.saw;
      rest = h.rest ++ more;
      whole = ap (λ (l : List Counted). l ++ more) h.whole ∙ append_assoc h.front (counted (VersionLoad k) h.version h.saw ∷ h.rest) more;
      again = h.again;
      differs = h.differs;
      behind = among_more h.rest more h.behind;
    }

-- STEPS THAT LOSE NOTHING owe nothing
unlost : (front back : List Counted) (step : Counted) → lost_steps (front ++ step ∷ back) ≡ 0 → is_lost step ≡ true → ⊥
unlost front back step none lost =
    let rest = filter is_lost back in
    absurd (omega (arith, lost-append front (step ∷ back), ap (λ (x : Bool). length (cond x (step ∷ rest) rest)) lost))

pub paid_unlost : (p : Plan) (k x : ℕ) (seen : List Entry) (found : Option ℕ) (steps : List Counted) → lost_steps steps ≡ 0 → TurnsArePaid p k x seen found steps
paid_unlost p k x seen found steps none = record { each = λ front back step e lost. absurd (unlost front back step (ap lost_steps (sym e) ∙ none) lost) }

-- THE STEPS OF A READ
inline_still : (k j : ℕ) (ws : List ℕ) (seen : ℕ) → AreStill (inline_steps k j ws seen)
inline_still k j [] seen = refl
inline_still k j (w ∷ ws) seen = inline_still k (suc j) ws seen

inline_unscanned : (k j : ℕ) (ws : List ℕ) (seen : ℕ) → scan_loads (inline_steps k j ws seen) ≡ 0
inline_unscanned k j [] seen = refl
inline_unscanned k j (w ∷ ws) seen = inline_unscanned k (suc j) ws seen

inline_unstored : (k j : ℕ) (ws : List ℕ) (seen : ℕ) → claim_stores (inline_steps k j ws seen) ≡ 0
inline_unstored k j [] seen = refl
inline_unstored k j (w ∷ ws) seen = inline_unstored k (suc j) ws seen

inline_unfilled : (k j : ℕ) (ws : List ℕ) (seen : ℕ) → node_stores (inline_steps k j ws seen) ≡ 0
inline_unfilled k j [] seen = refl
inline_unfilled k j (w ∷ ws) seen = inline_unfilled k (suc j) ws seen

inline_length : (k j : ℕ) (ws : List ℕ) (seen : ℕ) → length (inline_steps k j ws seen) ≡ length ws
inline_length k j [] seen = refl
inline_length k j (w ∷ ws) seen = ap suc (inline_length k (suc j) ws seen)

-- where the first steps look at no cell
first_behind : (k : ℕ) (a b : List Counted) → first_look k a ≡ None → first_look k (a ++ b) ≡ first_look k b
first_behind k [] b e = refl
first_behind k (s ∷ a) b e = go (is_look k s.kind) (first_behind k a b) e
  where
    go : (c : Bool) → (first_look k a ≡ None → first_look k (a ++ b) ≡ first_look k b) → cond c (Some s.seen) (first_look k a) ≡ None
        → cond c (Some s.seen) (first_look k (a ++ b)) ≡ first_look k b
    go true rest e = absurd cc
    go false rest e = rest e

-- one of the steps looks at the cell, and it saw all that is seen now
pub record LooksOnce (k : ℕ) (steps : List Counted) (now : SeatData) : Type 0 where
  pub first : first_look k steps ≡ Some (length now.view.seen)
  pub last : (found : Option ℕ) → last_look k found steps ≡ Some (length now.view.seen)

-- a read of the cell k made these steps, of which at most one is a look; it lost and stored nothing
pub record ReadOnce (k : ℕ) (steps : List Counted) (before now : SeatData) : Type 0 where
  pub only : OnlyRead before now
  pub trail : now.view.trail ≡ before.view.trail ++ steps
  pub law : IsSeat now
  pub none_lost : lost_steps steps ≡ 0
  pub none_claimed : claim_rounds steps ≡ 0
  pub none_stored : claim_stores steps ≡ 0
  pub none_filled : node_stores steps ≡ 0
  pub looks : AreLooks steps
  pub looked : (first_look k steps ≡ None) ⊎ LooksOnce k steps now

-- what they tell of its answer
abbrev pub ReadTells : ℕ → Inline → List Counted → SeatData → Type 0
ReadTells k (Words ws) steps now = IsInlineRead k ws (length now.view.seen) steps × LooksOnce k steps now
ReadTells k _ steps now = ReadFailed k steps

pub record HasReadOnce (k : ℕ) (answer : Inline) (before now : SeatData) : Type 0 where
  pub steps : List Counted
  pub few : length steps ≤ WIDTH + 4
  pub once : ReadOnce k steps before now
  pub tells : ReadTells k answer steps now

-- loads of a version and of the inline words
read_front : {k : ℕ} (u : ℕ) (ws : List ℕ) (before now : SeatData) → now.view.trail ≡ before.view.trail ++ read_steps k u ws (length before.view.seen) → OnlyRead before now → IsSeat now
    → ReadOnce k (read_steps k u ws (length before.view.seen)) before now
read_front {k} u ws before now trail only law =
    let seen = length before.view.seen in
    let steps = read_steps k u ws seen in
    let still : AreStill steps = inline_still k 0 ws seen in
    record {
      only = only;
      trail = trail;
      law = law;
      none_lost = still_lost steps still;
      none_claimed = still_rounds steps still;
      none_stored = inline_unstored k 0 ws seen;
      none_filled = inline_unfilled k 0 ws seen;
      looks = record { none_exchanged = still_exchanges steps still; none_scanned = inline_unscanned k 0 ws seen };
      looked = inl (still_first k steps still);
    }

-- and then of the backup, with steps behind it that are no look
abbrev pub look_steps : ℕ → ℕ → ℕ → List ℕ → List Counted → SeatData → SeatData → List Counted
look_steps k u x ws more before now = read_steps k u ws (length before.view.seen) ++ counted (BackupLoad k) x (length now.view.seen) ∷ more

read_looks : (k u x : ℕ) (ws : List ℕ) (more : List Counted) (before now : SeatData) → AreStill more → LooksOnce k (look_steps k u x ws more before now) now
read_looks k u x ws more before now still =
    let seen = length before.view.seen in
    let end = length now.view.seen in
    let front : List Counted = read_steps k u ws seen in
    let first : AreStill front = inline_still k 0 ws seen in
    let look : Counted = counted (BackupLoad k) x end in
    record {
      first = first_behind k front (look ∷ more) (still_first k front first) ∙ ap (λ (b : Bool). cond b (Some end) (first_look k more)) (eq-eqb k k refl);
      last = λ found. last_look-append k found front (look ∷ more)
          ∙ (ap (λ (b : Bool). last_look k (cond b (Some end) (last_look k found front)) more) (eq-eqb k k refl)
          ∙ still_last k (Some end) more still);
    }

read_look : (k u x : ℕ) (ws : List ℕ) (more : List Counted) (before now : SeatData) → now.view.trail ≡ before.view.trail ++ look_steps k u x ws more before now
    → AreStill more → scan_loads more ≡ 0 → claim_stores more ≡ 0 → node_stores more ≡ 0 → OnlyRead before now → IsSeat now
    → ReadOnce k (look_steps k u x ws more before now) before now
read_look k u x ws more before now trail still unscanned unstored unfilled only law =
    let seen = length before.view.seen in
    let front : List Counted = read_steps k u ws seen in
    let rest : List Counted = counted (BackupLoad k) x (length now.view.seen) ∷ more in
    let first : AreStill front = inline_still k 0 ws seen in
    record {
      only = only;
      trail = trail;
      law = law;
      none_lost = omega (arith, lost-append front rest, still_lost front first, still_lost more still);
      none_claimed = omega (arith, rounds-append front rest, still_rounds front first, still_rounds more still);
      none_stored = omega (arith, claim_stores-append front rest, inline_unstored k 0 ws seen);
      none_filled = omega (arith, node_stores-append front rest, inline_unfilled k 0 ws seen);
      looks = record {
        none_exchanged = omega (arith, exchanges-append front rest, still_exchanges front first, still_exchanges more still);
        none_scanned = omega (arith, scan_loads-append front rest, inline_unscanned k 0 ws seen);
      };
      looked = inr (read_looks k u x ws more before now still);
    }

-- what a read made, by its answer
pub read_once : {k : ℕ} (answer : Inline) {before now : SeatData} → ReadsInline k answer before now → OnlyRead before now → IsSeat now → HasReadOnce k answer before now
read_once {k} Odd {before} {now} h only law = record {
  steps = read_steps k h.version [] (length before.view.seen);
  few = omega arith;
  once = read_front h.version [] before now (ap (λ (z : SeatData). z.view.trail) h.after) only law;
  tells = inl (h.version, h.odd, record { front = []; saw = length before.view.seen; back = []; whole = refl });
}
read_once {k} Marked {before} {now} h only law =
    let front : List Counted = read_steps k h.version h.words (length before.view.seen) in
    let look : Counted = counted (BackupLoad k) h.word (length now.view.seen) in
    let wide = h.looked.whole in
    record {
      steps = front ++ look ∷ [];
      few = omega (arith, length-append front (look ∷ []), inline_length k 0 h.words (length before.view.seen));
      once = read_look k h.version h.word h.words [] before now h.looked.trail refl refl refl refl only law;
      tells = inr (inl (h.word, h.marked, record { front = front; saw = length now.view.seen; back = []; whole = refl }));
    }
read_once {k} Changed {before} {now} h only law =
    let e = h.ended in
    let loads : List Counted = inline_steps k 0 h.words (length before.view.seen) in
    let look : Counted = counted (BackupLoad k) e.word (length now.view.seen) in
    let again : Counted = counted (VersionAgain k) h.again (length now.view.seen) in
    let front : List Counted = read_steps k h.version h.words (length before.view.seen) in
    let wide = e.looked.whole in
    record {
      steps = front ++ look ∷ again ∷ [];
      few = omega (arith, length-append front (look ∷ again ∷ []), inline_length k 0 h.words (length before.view.seen));
      once = read_look k h.version e.word h.words (again ∷ []) before now e.trail refl refl refl refl only law;
      tells = inr (inr (record {
        front = [];
        version = h.version;
        saw = length before.view.seen;
        rest = loads ++ look ∷ again ∷ [];
        whole = refl;
        again = h.again;
        differs = h.differs;
        behind = record { front = loads ++ look ∷ []; saw = length now.view.seen; back = []; whole = sym (append_assoc loads (look ∷ []) (again ∷ [])) };
      }));
    }
read_once {k} (Words ws) {before} {now} h only law =
    let e = h.ended in
    let front : List Counted = read_steps k h.version ws (length before.view.seen) in
    let look : Counted = counted (BackupLoad k) e.word (length now.view.seen) in
    let again : Counted = counted (VersionAgain k) h.version (length now.view.seen) in
    let wide = e.looked.whole in
    record {
      steps = front ++ look ∷ again ∷ [];
      few = omega (arith, length-append front (look ∷ again ∷ []), inline_length k 0 ws (length before.view.seen));
      once = read_look k h.version e.word ws (again ∷ []) before now e.trail refl refl refl refl only law;
      tells = (
        record {
          version = h.version;
          word = e.word;
          saw = length before.view.seen;
          even = e.looked.even;
          unmarked = e.unmarked;
          whole = omega arith;
          made = refl;
          many = omega (arith, length-append front (look ∷ again ∷ []), inline_length k 0 ws (length before.view.seen));
        },
        read_looks k h.version e.word ws (again ∷ []) before now refl,
      );
    }

-- A READ, and what follows it
pub read_ours : {shared : ObjectData} {before now : SeatData} → OnlyRead before now → IsOf shared before → IsOf shared now
read_ours only of = record { object = ap (λ (z : SeatData). z.object) only.same ∙ of.object; plan = ap (λ (z : SeatData). z.view.plan) only.same ∙ of.plan }

module _ {k : ℕ} {steps : List Counted} {before mid : SeatData} (r : ReadOnce k steps before mid) where
  only_view : OnlySteps before.view mid.view
  only_view = subst (λ (z : View). OnlySteps before.view z) (sym (ap (λ (z : SeatData). z.view) r.only.same)) refl

  plan_same : mid.view.plan ≡ before.view.plan
  plan_same = ap (λ (z : View). z.plan) only_view

  numbers_same : mid.view.numbers ≡ before.view.numbers
  numbers_same = ap (λ (z : View). z.numbers) only_view

  pub read_stays : (c : ℕ) → Stays c before mid
  read_stays c =
      let same = r.only.same in
      record {
        same = only_stepped before mid same;
        retired = ap (λ (z : SeatData). z.view.retired) same;
        own = ap (λ (z : SeatData). z.view.own) same;
        others = λ d ne. ap (λ (z : SeatData). claim_of d z.view) same;
      }

  -- steps that hold whatever was found before them
  module _ {more : List Counted} {now : SeatData} (g : (found : Option ℕ) → Goes k found more mid now) where
    none_few : {n : ℕ} → lost_steps steps ≤ n
    none_few {n} = let none = r.none_lost in omega arith

    more_few : lost_steps more ≤ changes_on before.view.plan k (number before.view) (drop (length mid.view.seen) now.view.seen)
    more_few = few_before k more before mid now only_view (g None)

    pub read_goes : (found : Option ℕ) → Goes k found (steps ++ more) before now
    read_goes found =
        let q : Goes k (last_look k found steps) more mid now = g (last_look k found steps) in
        record {
          only = only_then before.view mid.view now.view only_view q.only;
          trail = q.trail ∙ (ap (λ t. t ++ more) r.trail ∙ append_assoc before.view.trail steps more);
          seen = goes_further before.view.seen mid.view.seen now.view.seen q.seen.0 r.only.seen q.seen.1;
          last = last_look-append k found steps more ∙ q.last;
          paid = paid_then before.view.plan k (number before.view) now.view.seen found steps more
              (paid_unlost before.view.plan k (number before.view) now.view.seen found steps r.none_lost)
              (subst (λ (z : Plan × List ℕ). TurnsArePaid z.0 k (slice_index z.1 0) now.view.seen (last_look k found steps) more) (λ i. (plan_same i, numbers_same i)) q.paid);
          few = few_then before.view.plan k (number before.view) (length before.view.seen) steps more mid.view.seen now.view.seen
              (longer_seen before.view.seen mid.view.seen r.only.seen) q.seen none_few more_few;
          object = q.object ∙ ap (λ (z : SeatData). z.object) r.only.same;
          first = q.first ∙ ap (λ (z : SeatData). z.first) r.only.same;
          stock = q.stock ∙ ap (λ (z : SeatData). stock z.view) r.only.same;
          sound = q.sound;
        }

    -- the first look is the read's, or theirs
    pub read_looked : {look : ℕ} → IsLooked k more look mid now → (first : ℕ) × IsLooked k (steps ++ more) first before now
    read_looked {look} l =
        let longer = longer_seen before.view.seen mid.view.seen r.only.seen in
        let further = longer_seen mid.view.seen now.view.seen (g None).seen in
        let from = l.from in
        let none = r.none_lost in
        ⊎_elim
        (λ never. (
          look,
          record {
            looked = first_behind k steps more never ∙ l.looked;
            from = omega arith;
            upto = l.upto;
            few = subst (λ (z : Plan × List ℕ). lost_steps (steps ++ more) ≤ changes_on z.0 k (slice_index z.1 0) (drop look now.view.seen)) (λ i. (plan_same i, numbers_same i))
                (omega (arith, lost-append steps more, l.few));
          },
        ))
        (λ (o : LooksOnce k steps mid). (
          length mid.view.seen,
          record {
            looked = looked_more k 0 (length mid.view.seen) steps more (omega arith) o.first;
            from = longer;
            upto = further;
            few = omega (arith, lost-append steps more, more_few);
          },
        ))
        r.looked

  -- turns that claim a node
  pub read_seen : {c word claims : ℕ} {now : SeatData} (s : HasSeen c k word claims mid now) → (t : HasSeen c k word claims before now) × (t.steps ≡ steps ++ s.steps)
  read_seen {c} {word} {claims} {now} s =
      let l = read_looked s.goes s.looked in
      let none = r.none_claimed in
      let none_tried = r.looks.none_exchanged in (
        record {
          steps = steps ++ s.steps;
          look = l.0;
          goes = read_goes s.goes;
          looked = l.1;
          looks = looks_then steps s.steps r.looks s.looks;
          paced = paces_then {mid = 0} (record { rounds = omega arith; tries = omega arith }) s.paced;
          none_filled = let none_read = r.none_filled in let none_later = s.none_filled in omega (arith, node_stores-append steps s.steps);
          stored = λ serves. let some = s.stored serves in omega (arith, claim_stores-append steps s.steps);
          stays = stays_then c before mid now (read_stays c) s.stays;
          found = s.found;
        },
        refl,
      )

  -- A READ THAT ANSWERED is a look at the end of what is seen
  module _ (o : LooksOnce k steps mid) where
    pub inline_goes : (found : Option ℕ) → Goes k found steps before mid
    inline_goes found = record {
      only = only_view;
      trail = r.trail;
      seen = r.only.seen;
      last = o.last found;
      paid = paid_unlost before.view.plan k (number before.view) mid.view.seen found steps r.none_lost;
      few = let none = r.none_lost in omega arith;
      object = ap (λ (z : SeatData). z.object) r.only.same;
      first = ap (λ (z : SeatData). z.first) r.only.same;
      stock = ap (λ (z : SeatData). stock z.view) r.only.same;
      sound = r.law.sound;
    }

    pub inline_looked : IsLooked k steps (length mid.view.seen) before mid
    inline_looked = record {
      looked = o.first;
      from = longer_seen before.view.seen mid.view.seen r.only.seen;
      upto = omega arith;
      few = let none = r.none_lost in omega arith;
    }

    -- so a call on the cell may be answered there, by a reply that isn't Full and that is right
    pub inline_ends : (call : Call) (reply : Reply) → IsSeat before → before.holding ≡ [] → cell_of mid.view.plan call ≡ k
        → IsRight mid.view.plan mid.view.seen mid.view.stands (reading (length mid.view.seen) call reply mid.view)
        → ((need free : ℕ) → reply ≢ Full need free)
        → MayEnd k (length mid.view.seen) (length mid.view.seen) call reply steps before mid
    inline_ends call reply first idle on right other =
        let none = r.none_claimed in
        let none_tried = r.looks.none_exchanged in
        record {
          goes = inline_goes None;
          looked = inline_looked;
          paced = record { rounds = omega arith; tries = omega arith };
          first = first;
          on = on;
          late = omega arith;
          right = right;
          idle = idle;
          idle_now = ap (λ (z : SeatData). z.holding) r.only.same ∙ idle;
          full = λ need free e. absurd (other need free e);
        }
