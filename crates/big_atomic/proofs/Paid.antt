-- Lost steps, each paid for by a stretch of the history of its own.
use Rattle.std.proofs.Common.{◌≡◌, ◌∙◌, ℕ, ◌+◌, ◌<◌, ◌≤◌, suc, Bool, true, false, not, ◌&&◌, cond, eqb, eq-eqb, List, [], ◌∷◌, ◌++◌, Option, Some, None}
use Rattle.std.proofs.Common.{length, map, filter, take, drop, length-append, refl, sym, ap, subst, arith}
use Rattle.std.proofs.lemmas.Bool.{false≢true}
use Rattle.std.proofs.lemmas.List.{take-append-le, take_all}
use Rattle.std.proofs.lemmas.List.Elements.{filter-append}
use Rattle.std.proofs.Math.Seq.{drop-append_seam}
use mathlib.Core.Option.{some}
use lib.ListN.{get_elem?}
use Rattle.big_atomic.specs.Turns.{IsPaid, TurnsArePaid, changes_on, claim_rounds, claim_stores, exchanges, last_look, lost_steps, node_stores, scan_loads}
use Rattle.big_atomic.specs.Turns.{is_claim_round, is_claim_store, is_exchange, is_lost, is_lost_by, is_node_store, is_scan_load}
use Rattle.seat_history.specs.declared.entry.Entry.{Entry}
use Rattle.step_rules.proofs.Numbers.Places.{at_behind}
use Rattle.step_rules.proofs.Numbers.Sets.{has_first}
use Rattle.step_rules.specs.History.{GoesOn, NoneOn, cell_of, entries_by}
use Rattle.step_rules.specs.Kinds.Standing.{first_look, is_look}
use Rattle.step_rules.specs.Lawful.{entry_of, made_by}
use Rattle.step_rules.specs.Sound.{Sound}
use Rattle.step_rules.specs.Views.{number}
use Rattle.step_rules.specs.World.{has}
use Rattle.step_rules.specs.declared.plan.Plan.{Plan}
use Rattle.step_rules.specs.declared.view.Counted.{Counted}
use Rattle.step_rules.specs.declared.view.Kind.{Kind}
use Rattle.step_rules.specs.declared.view.Kind.TheVariants.{NodeStore, NodeLoad, BackupLoad, BackupExchange, ClaimStore, Recheck, ClaimClear, ScanLoad}
use Rattle.step_rules.specs.declared.view.Kind.TheVariants.{VersionLoad, InlineLoad, VersionAgain, VersionLock, InlineStore, VersionRelease, MarkClear}
use Rattle.step_rules.specs.declared.view.Stand.{Stand}
use Rattle.big_atomic.specs.Calling.{Costs}
use Rattle.step_rules.specs.declared.view.View.{View}

pub exchanges-append : (a b : List Counted) → exchanges (a ++ b) ≡ exchanges a + exchanges b
exchanges-append a b = ap length (filter-append (λ (step : Counted). is_exchange step.kind) a b) ∙ length-append _ _

pub lost-append : (a b : List Counted) → lost_steps (a ++ b) ≡ lost_steps a + lost_steps b
lost-append a b = ap length (filter-append is_lost a b) ∙ length-append _ _

pub rounds-append : (a b : List Counted) → claim_rounds (a ++ b) ≡ claim_rounds a + claim_rounds b
rounds-append a b = ap length (filter-append (λ (step : Counted). is_claim_round step.kind) a b) ∙ length-append _ _

pub claim_stores-append : (a b : List Counted) → claim_stores (a ++ b) ≡ claim_stores a + claim_stores b
claim_stores-append a b = ap length (filter-append (λ (step : Counted). is_claim_store step.kind) a b) ∙ length-append _ _

pub scan_loads-append : (a b : List Counted) → scan_loads (a ++ b) ≡ scan_loads a + scan_loads b
scan_loads-append a b = ap length (filter-append (λ (step : Counted). is_scan_load step.kind) a b) ∙ length-append _ _

pub node_stores-append : (a b : List Counted) → node_stores (a ++ b) ≡ node_stores a + node_stores b
node_stores-append a b = ap length (filter-append (λ (step : Counted). is_node_store step.kind) a b) ∙ length-append _ _

pub changes-append : (p : Plan) (k x : ℕ) (a b : List Entry) → changes_on p k x (a ++ b) ≡ changes_on p k x a + changes_on p k x b
changes-append p k x a b = ap length (filter-append (λ (e : Entry). (eqb (cell_of p e.call) k) && not (eqb e.caller x)) a b) ∙ length-append _ _

pub last_look-append : (k : ℕ) (found : Option ℕ) (a b : List Counted) → last_look k found (a ++ b) ≡ last_look k (last_look k found a) b
last_look-append k found [] b = refl
last_look-append k found (s ∷ a) b = last_look-append k (cond (is_look k s.kind) (Some s.seen) found) a b

-- what steps cost, within more, and with further steps that lose and exchange nothing
pub costs_within : {l l' t t' n n' : ℕ} {steps : List Counted} → Costs l t n steps → l ≤ l' → t ≤ t' → n ≤ n' → Costs l' t' n' steps
costs_within c lost tried many =
    let a = c.lost_most in
    let b = c.tried_most in
    let d = c.most in
    record { lost_most = omega arith; tried_most = omega arith; most = omega arith }

pub costs_then : {l t m most : ℕ} {a : List Counted} (b : List Counted) → Costs l t m a → lost_steps b ≡ 0 → exchanges b ≡ 0 → m + length b ≤ most → Costs l t most (a ++ b)
costs_then {a} b c lost tried many =
    let l = c.lost_most in
    let t = c.tried_most in
    let d = c.most in
    record { lost_most = omega (arith, lost-append a b); tried_most = omega (arith, exchanges-append a b); most = omega (arith, length-append a b) }

-- how much of the history was seen at the last look, after a step
abbrev look_after : ℕ → Option ℕ → Counted → Option ℕ
look_after k found s = cond (is_look k s.kind) (Some s.seen) found

paid_none : (p : Plan) (k x : ℕ) (seen : List Entry) (found : Option ℕ) → TurnsArePaid p k x seen found []
paid_none p k x seen found = record { each = go }
  where
    go : (front back : List Counted) (step : Counted) → [] ≡ front ++ step ∷ back → is_lost step ≡ true → IsPaid p k x seen (last_look k found front) step
    go [] back step e lost = absurd cc
    go (f ∷ front) back step e lost = absurd cc

pub paid_cons : (p : Plan) (k x : ℕ) (seen : List Entry) (found : Option ℕ) (s : Counted) (r : List Counted) → (is_lost s ≡ true → IsPaid p k x seen found s)
    → TurnsArePaid p k x seen (look_after k found s) r → TurnsArePaid p k x seen found (s ∷ r)
paid_cons p k x seen found s r here rest = record { each = go }
  where
    go : (front back : List Counted) (step : Counted) → s ∷ r ≡ front ++ step ∷ back → is_lost step ≡ true → IsPaid p k x seen (last_look k found front) step
    go [] back step e lost = let is : s ≡ step = cc in subst (λ (c : Counted). IsPaid p k x seen found c) is (here (ap is_lost is ∙ lost))
    go (f ∷ front) back step e lost =
        let is : s ≡ f = cc in
        let later : r ≡ front ++ step ∷ back = cc in
        subst (λ (c : Counted). IsPaid p k x seen (last_look k (look_after k found c) front) step) is (rest.each front back step later lost)

paid_head : (p : Plan) (k x : ℕ) (seen : List Entry) (found : Option ℕ) (s : Counted) (r : List Counted) → TurnsArePaid p k x seen found (s ∷ r) → is_lost s ≡ true → IsPaid p k x seen found s
paid_head p k x seen found s r paid = paid.each [] r s refl

paid_tail : (p : Plan) (k x : ℕ) (seen : List Entry) (found : Option ℕ) (s : Counted) (r : List Counted) → TurnsArePaid p k x seen found (s ∷ r) → TurnsArePaid p k x seen (look_after k found s) r
paid_tail p k x seen found s r paid = record { each = λ front back step e. paid.each (s ∷ front) back step (ap (λ l. s ∷ l) e) }

-- further steps
pub paid_then : (p : Plan) (k x : ℕ) (seen : List Entry) (found : Option ℕ) (a b : List Counted) → TurnsArePaid p k x seen found a → TurnsArePaid p k x seen (last_look k found a) b
    → TurnsArePaid p k x seen found (a ++ b)
paid_then p k x seen found [] b first second = second
paid_then p k x seen found (s ∷ a) b first second =
    paid_cons p k x seen found s (a ++ b) (paid_head p k x seen found s a first) (paid_then p k x seen (look_after k found s) a b (paid_tail p k x seen found s a first) second)

-- more of the history is seen
pub paid_more : (p : Plan) (k x : ℕ) (seen seen' : List Entry) (found : Option ℕ) (steps : List Counted) → GoesOn seen seen'
    → ((i : ℕ) (c : Counted) → get_elem? steps i ≡ some c → c.seen ≤ length seen)
    → TurnsArePaid p k x seen found steps → TurnsArePaid p k x seen' found steps
paid_more p k x seen seen' found [] on within paid = paid_none p k x seen' found
paid_more p k x seen seen' found (s ∷ r) on within paid =
    let same : take s.seen seen' ≡ take s.seen seen = ap (take s.seen) on.1 ∙ take-append-le s.seen seen on.0 (within 0 s refl) in
    paid_cons p k x seen' found s r
    (λ lost. let h = paid_head p k x seen found s r paid lost in record {
      look = h.look;
      from = h.from;
      before = h.before;
      change = subst (λ (l : List Entry). 0 < changes_on p k x (drop h.from l)) (sym same) h.change;
    })
    (paid_more p k x seen seen' (look_after k found s) r on (λ i c at. within (suc i) c at) (paid_tail p k x seen found s r paid))

-- the last steps of a trail saw no more than is seen
pub saw_within : (v : View) (before steps : List Counted) → Sound v → v.trail ≡ before ++ steps → (i : ℕ) (c : Counted) → get_elem? steps i ≡ some c → c.seen ≤ length v.seen
saw_within v before steps sound trail i c at = let b = at_behind before steps i c at in sound.trail.each b.0 c (ap (λ (l : List Counted). get_elem? l b.0) trail ∙ b.1)

-- steps of these kinds look at no cell
abbrev pub still : Kind → Bool
still (BackupLoad cell) = false
still (Recheck claim cell seen) = false
still (BackupExchange cell seen node) = false
still _ = true

abbrev pub all_still : List Counted → Bool
all_still [] = true
all_still (s ∷ r) = still s.kind && all_still r

abbrev pub AreStill : List Counted → Type 0
AreStill steps = all_still steps ≡ true

-- a still step is no look, and isn't lost
still_looks : (k : ℕ) (kind : Kind) → still kind ≡ true → is_look k kind ≡ false
still_looks k (NodeStore node j word) e = refl
still_looks k (NodeLoad node j) e = refl
still_looks k (BackupLoad cell) e = absurd (false≢true e)
still_looks k (BackupExchange cell seen node) e = absurd (false≢true e)
still_looks k (ClaimStore claim node) e = refl
still_looks k (Recheck claim cell seen) e = absurd (false≢true e)
still_looks k (ClaimClear claim) e = refl
still_looks k (ScanLoad word) e = refl
still_looks k (VersionLoad cell) e = refl
still_looks k (InlineLoad cell j) e = refl
still_looks k (VersionAgain cell) e = refl
still_looks k (VersionLock cell version) e = refl
still_looks k (InlineStore cell j word) e = refl
still_looks k (VersionRelease cell version) e = refl
still_looks k (MarkClear cell node) e = refl

still_kept : (kind : Kind) (found : ℕ) → still kind ≡ true → (is_lost_by kind found ≡ false) × (is_exchange kind ≡ false) × (is_claim_round kind ≡ false)
still_kept (NodeStore node j word) found e = (refl, refl, refl)
still_kept (NodeLoad node j) found e = (refl, refl, refl)
still_kept (BackupLoad cell) found e = absurd (false≢true e)
still_kept (BackupExchange cell seen node) found e = absurd (false≢true e)
still_kept (ClaimStore claim node) found e = (refl, refl, refl)
still_kept (Recheck claim cell seen) found e = absurd (false≢true e)
still_kept (ClaimClear claim) found e = (refl, refl, refl)
still_kept (ScanLoad word) found e = (refl, refl, refl)
still_kept (VersionLoad cell) found e = (refl, refl, refl)
still_kept (InlineLoad cell j) found e = (refl, refl, refl)
still_kept (VersionAgain cell) found e = (refl, refl, refl)
still_kept (VersionLock cell version) found e = (refl, refl, refl)
still_kept (InlineStore cell j word) found e = (refl, refl, refl)
still_kept (VersionRelease cell version) found e = (refl, refl, refl)
still_kept (MarkClear cell node) found e = (refl, refl, refl)

pub still_parts : (s : Counted) (r : List Counted) → AreStill (s ∷ r) → (still s.kind ≡ true) × AreStill r
still_parts s r e = go (still s.kind) refl e
  where
    go : (b : Bool) → still s.kind ≡ b → (b && all_still r) ≡ true → (still s.kind ≡ true) × AreStill r
    go true is e = (is, e)
    go false is e = absurd (false≢true e)

pub still-append : (a b : List Counted) → AreStill a → AreStill b → AreStill (a ++ b)
still-append [] b first second = second
still-append (s ∷ a) b first second = let h = still_parts s a first in ap (λ (c : Bool). c && all_still (a ++ b)) h.0 ∙ still-append a b h.1 second

pub still_lost : (steps : List Counted) → AreStill steps → lost_steps steps ≡ 0
still_lost [] e = refl
still_lost (s ∷ r) e = let h = still_parts s r e in ap (λ (b : Bool). length (cond b (s ∷ filter is_lost r) (filter is_lost r))) (still_kept s.kind s.found h.0).0 ∙ still_lost r h.1

pub still_exchanges : (steps : List Counted) → AreStill steps → exchanges steps ≡ 0
still_exchanges [] e = refl
still_exchanges (s ∷ r) e =
    let h = still_parts s r e in
    let rest = filter (λ (step : Counted). is_exchange step.kind) r in
    ap (λ (b : Bool). length (cond b (s ∷ rest) rest)) (still_kept s.kind s.found h.0).1 ∙ still_exchanges r h.1

pub still_rounds : (steps : List Counted) → AreStill steps → claim_rounds steps ≡ 0
still_rounds [] e = refl
still_rounds (s ∷ r) e =
    let h = still_parts s r e in
    let rest = filter (λ (step : Counted). is_claim_round step.kind) r in
    ap (λ (b : Bool). length (cond b (s ∷ rest) rest)) (still_kept s.kind s.found h.0).2 ∙ still_rounds r h.1

pub still_first : (k : ℕ) (steps : List Counted) → AreStill steps → first_look k steps ≡ None
still_first k [] e = refl
still_first k (s ∷ r) e = let h = still_parts s r e in ap (λ (b : Bool). cond b (Some s.seen) (first_look k r)) (still_looks k s.kind h.0) ∙ still_first k r h.1

pub still_last : (k : ℕ) (found : Option ℕ) (steps : List Counted) → AreStill steps → last_look k found steps ≡ found
still_last k found [] e = refl
still_last k found (s ∷ r) e = let h = still_parts s r e in ap (λ (b : Bool). last_look k (cond b (Some s.seen) found) r) (still_looks k s.kind h.0) ∙ still_last k found r h.1

-- so nothing is owed for still steps
pub paid_still : (p : Plan) (k x : ℕ) (seen : List Entry) (found : Option ℕ) (steps : List Counted) → AreStill steps → TurnsArePaid p k x seen found steps
paid_still p k x seen found [] e = paid_none p k x seen found
paid_still p k x seen found (s ∷ r) e =
    let h = still_parts s r e in
    paid_cons p k x seen found s r (λ lost. absurd (false≢true (sym (still_kept s.kind s.found h.0).0 ∙ lost))) (paid_still p k x seen (look_after k found s) r h.1)

-- nor for one step that isn't lost
pub paid_kept : (p : Plan) (k x : ℕ) (seen : List Entry) (found : Option ℕ) (s : Counted) → is_lost s ≡ false → TurnsArePaid p k x seen found (s ∷ [])
paid_kept p k x seen found s kept = paid_cons p k x seen found s [] (λ lost. absurd (false≢true (sym kept ∙ lost))) (paid_none p k x seen (look_after k found s))

-- and one step that looks is paid for by a change since the look before it
pub paid_look : (p : Plan) (k x from : ℕ) (seen : List Entry) (s : Counted) → is_look k s.kind ≡ true → s.seen ≡ length seen → 0 < changes_on p k x (drop from seen)
    → TurnsArePaid p k x seen (Some from) (s ∷ [])
paid_look p k x from seen s look whole change = paid_cons p k x seen (Some from) s []
    (λ lost. record {
      look = look;
      from = from;
      before = refl;
      change = subst (λ (l : List Entry). 0 < changes_on p k x (drop from l)) (sym (take_all s.seen seen (omega arith))) change;
    })
    (paid_none p k x seen (look_after k (Some from) s))

-- the entry is another caller's, and on the cell
abbrev is_others : Plan → ℕ → ℕ → Entry → Bool
is_others p k x e = (eqb (cell_of p e.call) k) && not (eqb e.caller x)

-- the caller has no more entries, so an entry on the cell is another caller's
others_entry : (p : Plan) (k x : ℕ) (es : List Entry) → ¬ NoneOn p k es → entries_by x es ≡ [] → 1 ≤ changes_on p k x es
others_entry p k x [] some_on none = absurd (some_on tt)
others_entry p k x (e ∷ es) some_on none = by_caller (eqb e.caller x) refl none
    (λ off rest. others_entry p k x es (λ apart. some_on ((λ on. false≢true (sym off ∙ eq-eqb (cell_of p e.call) k on)), apart)) rest)
  where
    by_cell : (b : Bool) → eqb (cell_of p e.call) k ≡ b → (eqb (cell_of p e.call) k ≡ false → 1 ≤ changes_on p k x es)
        → 1 ≤ length (cond (b && true) (e ∷ filter (is_others p k x) es) (filter (is_others p k x) es))
    by_cell true on rest = omega arith
    by_cell false off rest = rest off

    by_caller : (b : Bool) → eqb e.caller x ≡ b → cond b (e ∷ entries_by x es) (entries_by x es) ≡ [] → (eqb (cell_of p e.call) k ≡ false → entries_by x es ≡ [] → 1 ≤ changes_on p k x es)
        → 1 ≤ length (cond ((eqb (cell_of p e.call) k) && not b) (e ∷ filter (is_others p k x) es) (filter (is_others p k x) es))
    by_caller true is none rest = absurd cc
    by_caller false is none rest = by_cell (eqb (cell_of p e.call) k) refl (λ off. rest off none)

no_more : {A : Type 0} (xs ys : List A) → xs ++ ys ≡ xs → ys ≡ []
no_more xs [] e = refl
no_more xs (y ∷ ys) e = absurd (omega (arith, ap length e, length-append xs (y ∷ ys)))

-- what was seen on the cell between two views with the same stands is another caller's
pub others_change : (k : ℕ) (v w : View) → Sound v → Sound w → w.plan ≡ v.plan → w.numbers ≡ v.numbers → w.stands ≡ v.stands → GoesOn v.seen w.seen → ¬ NoneOn v.plan k (drop (length v.seen) w.seen)
    → 0 < changes_on v.plan k (number v) (drop (length v.seen) w.seen)
others_change k v w first second plan numbers stands on some_on =
    let mine = has_first v.numbers first.some_number in
    let before : entries_by (number v) v.seen ≡ map entry_of (made_by (number v) v.stands) = first.lawful.made (number v) mine in
    let after : entries_by (number v) w.seen ≡ map entry_of (made_by (number v) v.stands) = subst (λ (l : List Stand). entries_by (number v) w.seen ≡ map entry_of (made_by (number v) l)) stands
    (second.lawful.made (number v) (subst (λ (ns : List ℕ). has ns (number v) ≡ true) (sym numbers) mine)) in
    let parts : entries_by (number v) w.seen ≡ entries_by (number v) v.seen ++ entries_by (number v) on.0 =
    ap (entries_by (number v)) on.1 ∙ filter-append (λ (e : Entry). eqb e.caller (number v)) v.seen on.0 in
    let none : entries_by (number v) on.0 ≡ [] = no_more (entries_by (number v) v.seen) (entries_by (number v) on.0) (sym parts ∙ (after ∙ sym before)) in
    let rest : drop (length v.seen) w.seen ≡ on.0 = ap (drop (length v.seen)) on.1 ∙ drop-append_seam v.seen on.0 in
    subst (λ (r : List Entry). 1 ≤ changes_on v.plan k (number v) r) (sym rest) (others_entry v.plan k (number v) on.0 (subst (λ (r : List Entry). ¬ NoneOn v.plan k r) rest some_on) none)
