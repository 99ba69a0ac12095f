-- A register that others changed was not what it had been at some place since.
use Rattle.std.proofs.Common.{◌≡◌, ◌≢◌, ◌∙◌, ℕ, ◌+◌, ◌<◌, ◌≤◌, suc, zero, Bool, true, false, not, cond, List, [], ◌∷◌, ◌++◌, length, take, drop, get_or, refl, sym, ap, subst, arith, ⊎_elim}
use Rattle.std.proofs.Math.Seq.{take-suc}
use Rattle.std.proofs.lemmas.Bool.{cases_Bool, cases_eq, false≢true, false_from_ne_true, and_parts, not-true}
use mathlib.Core.Option.{some, some-injective, some-ne-none}
use lib.ListN.{get_elem?}
use Rattle.big_atomic.specs.Calling.{first_unlike}
use Rattle.seat_history.proofs.Changed.{same_from_words, set_at_here, words_from_same}
use Rattle.seat_history.proofs.Histories.{contents_from-append}
use Rattle.seat_history.specs.Change.{is_change}
use Rattle.seat_history.specs.Contents.{Contents, blank, set_at}
use Rattle.seat_history.specs.History.{contents_from, state_at}
use Rattle.seat_history.specs.Key.{key_number}
use Rattle.seat_history.specs.Step.{contents_after, is_same}
use Rattle.seat_history.specs.declared.call.Call.TheVariants.{Load, Store, Swap, Hold, Look, Release, Find, Insert, Replace, Remove}
use Rattle.seat_history.specs.declared.call.Call.{Call}
use Rattle.seat_history.specs.declared.entry.Entry.{Entry}
use Rattle.step_rules.proofs.Numbers.Places.{at_below}
use Rattle.step_rules.specs.History.{IsHistory, NoneOn, cell_of, key_cell}
use Rattle.step_rules.specs.declared.plan.Plan.{Plan}

-- where it isn't so that none of the entries is on the cell, one is
entry_on : (p : Plan) (k : ℕ) (es : List Entry) → ¬ NoneOn p k es → (i : ℕ) × (e : Entry) × (get_elem? es i ≡ some e) × (cell_of p e.call ≡ k)
entry_on p k [] some_on = absurd (some_on tt)
entry_on p k (e ∷ es) some_on = ⊎_elim (λ on. (0, e, refl, on)) (λ apart. let r = entry_on p k es (λ none. some_on (apart, none)) in (suc r.0, r.1, r.2, r.3)) (cases_eq (cell_of p e.call) k)

at_dropped : {A : Type 0} (n : ℕ) (l : List A) (i j : ℕ) (a : A) → j ≡ n + i → get_elem? (drop n l) i ≡ some a → get_elem? l j ≡ some a
at_dropped zero l i j a is e = subst (λ (k : ℕ). get_elem? l k ≡ some a) (let h : i ≡ j = omega arith in h) e
at_dropped (suc n) [] i j a is e = absurd cc
at_dropped (suc n) (x ∷ l) i zero a is e = absurd (omega arith)
at_dropped (suc n) (x ∷ l) i (suc j) a is e = at_dropped n l i j a (omega arith) e

value_at : {A : Type 0} (l : List A) (i : ℕ) (a d : A) → get_elem? l i ≡ some a → get_or l i d ≡ a
value_at [] i a d e = absurd (some-ne-none a (sym e))
value_at (x ∷ l) zero a d e = some-injective x a e
value_at (x ∷ l) (suc i) a d e = value_at l i a d e

-- the contents after the entry at a place
state_after : (log : List Entry) (i : ℕ) (e : Entry) → get_elem? log i ≡ some e → state_at log (suc i) ≡ contents_after (state_at log i) e.call
state_after log i e at = ap (contents_from blank)
    (take-suc log i e (at_below log i e at) ∙ ap (λ (z : Entry). take i log ++ z ∷ []) (value_at log i e e at)) ∙ contents_from-append blank (take i log) (e ∷ [])

-- the register k after a call on it sets it, where it was x before
set_other : (f : ℕ → List ℕ) (reg k : ℕ) (new : List ℕ) → reg ≡ k → is_same (f reg) new ≡ false → set_at f reg new k ≢ f k
set_other f reg k new on other same = false≢true (sym other ∙ same_from_words (f reg) new (sym (sym (ap (set_at f reg new) (sym on) ∙ set_at_here f reg new) ∙ (same ∙ ap f (sym on)))))

-- a call that changes a register leaves another record in it
changes_register : (p : Plan) (c : Contents) (call : Call) (k : ℕ) → k < p.registers → cell_of p call ≡ k → is_change c call ≡ true → (contents_after c call).registers k ≢ c.registers k
changes_register p c (Load reg) k inside on change = absurd (false≢true change)
changes_register p c (Store reg new) k inside on change = set_other c.registers reg k new on (not-true (is_same (c.registers reg) new) change)
changes_register p c (Swap reg old new) k inside on change =
    let both = and_parts (is_same (c.registers reg) old) (not (is_same old new)) change in
    let was : is_same (c.registers reg) old ≡ true = both.0 in
    let other : is_same old new ≡ false = not-true (is_same old new) both.1 in
    let there : c.registers reg ≡ old = words_from_same (c.registers reg) old was in
    subst (λ (b : Bool). (cond b (set_at c.registers reg new) c.registers) k ≢ c.registers k) (sym was)
    (set_other c.registers reg k new on (ap (λ (x : List ℕ). is_same x new) there ∙ other))
changes_register p c (Hold reg) k inside on change = absurd (false≢true change)
changes_register p c Look k inside on change = absurd (false≢true change)
changes_register p c Release k inside on change = absurd (false≢true change)
changes_register p c (Find key) k inside on change = absurd (false≢true change)
changes_register p c (Insert key val) k inside on change = let q : key_cell p (key_number key) ≡ k = on in absurd (omega arith)
changes_register p c (Replace key old new) k inside on change = let q : key_cell p (key_number key) ≡ k = on in absurd (omega arith)
changes_register p c (Remove key) k inside on change = let q : key_cell p (key_number key) ≡ k = on in absurd (omega arith)

-- an entry on the register changes it, so it isn't old before it or after it
pub unlike_at : (p : Plan) (log : List Entry) (at k : ℕ) (old : List ℕ) → IsHistory p log → k < p.registers → ¬ NoneOn p k (drop at log)
    → (q : ℕ) × (at ≤ q) × (q ≤ length log) × (is_same ((state_at log q).registers k) old ≡ false)
unlike_at p log at k old history inside some_on =
    let found = entry_on p k (drop at log) some_on in
    let i : ℕ = found.0 in
    let e : Entry = found.1 in
    let there : get_elem? log (at + i) ≡ some e = at_dropped at log i (at + i) e refl found.2 in
    let low = at_below log (at + i) e there in
    let on : cell_of p e.call ≡ k = found.3 in
    let change = (history.each (at + i) e there).changes in
    let next : (state_at log (suc (at + i))).registers k ≢ (state_at log (at + i)).registers k =
    subst (λ (c : Contents). c.registers k ≢ (state_at log (at + i)).registers k) (sym (state_after log (at + i) e there)) (changes_register p (state_at log (at + i)) e.call k inside on change) in
    ⊎_elim
    (λ was. (
      suc (at + i),
      omega arith,
      omega arith,
      false_from_ne_true (is_same ((state_at log (suc (at + i))).registers k) old) (λ is.
          next (words_from_same ((state_at log (suc (at + i))).registers k) old is ∙ sym (words_from_same ((state_at log (at + i)).registers k) old was))),
    ))
    (λ other. (at + i, omega arith, omega arith, other))
    (cases_Bool (is_same ((state_at log (at + i)).registers k) old))

-- all that the first unlike place is
pub record IsFirst (reg : ℕ) (old : List ℕ) (seen : List Entry) (from till f : ℕ) : Type 0 where
  pub late : from ≤ f
  pub within : f ≤ till
  pub unlike : is_same ((state_at seen f).registers reg) old ≡ false
  pub before : (q : ℕ) → from ≤ q → q < f → is_same ((state_at seen q).registers reg) old ≡ true

-- where there is an unlike place, the first one is found
pub first_is : (reg : ℕ) (old : List ℕ) (seen : List Entry) (q n k : ℕ) → q ≤ k → k ≤ q + n → is_same ((state_at seen k).registers reg) old ≡ false
    → IsFirst reg old seen q (q + n) (first_unlike reg old seen q n)
first_is reg old seen q zero k above below e = record {
  late = omega arith;
  within = omega arith;
  unlike = subst (λ (z : ℕ). is_same ((state_at seen z).registers reg) old ≡ false) (let s : k ≡ q = omega arith in s) e;
  before = λ r low high. absurd (omega arith);
}
first_is reg old seen q (suc n) k above below e = go (is_same ((state_at seen q).registers reg) old) refl (λ l. first_is reg old seen (suc q) n k l (omega arith) e)
  where
    go : (b : Bool) → is_same ((state_at seen q).registers reg) old ≡ b → (suc q ≤ k → IsFirst reg old seen (suc q) (suc q + n) (first_unlike reg old seen (suc q) n))
        → IsFirst reg old seen q (q + suc n) (cond b (first_unlike reg old seen (suc q) n) q)
    go true is rest =
        let ne : q ≢ k = λ s. false≢true (sym e ∙ (ap (λ (z : ℕ). is_same ((state_at seen z).registers reg) old) (sym s) ∙ is)) in
        let r = rest (omega arith) in
        let late = r.late in
        let within = r.within in
        record {
          late = omega arith;
          within = omega arith;
          unlike = r.unlike;
          before = λ x low high. ⊎_elim (λ s. subst (λ (z : ℕ). is_same ((state_at seen z).registers reg) old ≡ true) s is) (λ apart. r.before x (omega arith) high) (cases_eq q x);
        }
    go false is rest = record { late = omega arith; within = omega arith; unlike = is; before = λ x low high. absurd (omega arith) }
