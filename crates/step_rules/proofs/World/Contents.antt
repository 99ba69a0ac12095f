-- The contents at the places of a history, register by register.
use Rattle.std.proofs.Common.{◌≡◌, ◌≢◌, ◌∙◌, ℕ, ◌<◌, ◌≤◌, suc, Bool, true, false, cond, eqb, List, [], ◌∷◌, ◌++◌, length, take, drop, refl, sym, ap, subst}
use Rattle.std.proofs.Common.{arith}
use Rattle.std.proofs.lemmas.List.{take_all, take-append-drop}
use mathlib.Core.Option.{some}
use lib.ListN.{get_elem?}
use Rattle.atomic_table.proofs.Lists.{at_longer}
use Rattle.seat_history.proofs.Histories.{contents_from-append, state_at-append}
use Rattle.seat_history.specs.Contents.{Contents, blank, set_at}
use Rattle.seat_history.specs.History.{contents_from, state_at}
use Rattle.seat_history.specs.Step.{contents_after, is_same}
use Rattle.seat_history.specs.declared.call.Call.{Call}
use Rattle.seat_history.specs.declared.call.Call.TheVariants.{Load, Store, Swap}
use Rattle.seat_history.specs.declared.entry.Entry.{Entry}
use Rattle.seat_history.specs.declared.words.TheConstants.{WIDTH}
use Rattle.step_rules.specs.History.{IsEntry, IsHistory, IsWide, NoneOn, cell_of}
use Rattle.step_rules.specs.declared.plan.Plan.{Plan}
use Rattle.step_rules.proofs.World.Frames.{set_at_else}
use Rattle.step_rules.proofs.Numbers.Places.{at_below, at_take}

pub take_whole : (log : List Entry) → take (length log) log ≡ log
take_whole log = take_all (length log) log (omega arith)

-- a call leaves the registers that it isn't on
pub else_same : (p : Plan) (c : Contents) (call : Call) (k : ℕ) → k < p.registers → cell_of p call ≢ k → (contents_after c call).registers k ≡ c.registers k
else_same p c (Store reg new) k inside apart = set_at_else c.registers reg k new (λ e. apart (sym e))
else_same p c (Swap reg old new) k inside apart = go (is_same (c.registers reg) old)
  where
    go : (t : Bool) → (cond t (set_at c.registers reg new) c.registers) k ≡ c.registers k
    go true = set_at_else c.registers reg k new (λ e. apart (sym e))
    go false = refl
else_same p c _ k inside apart = refl

-- entries on other cells leave the register
quiet_from : (p : Plan) (c : Contents) (k : ℕ) (es : List Entry) → k < p.registers → NoneOn p k es → (contents_from c es).registers k ≡ c.registers k
quiet_from p c k [] inside none = refl
quiet_from p c k (e ∷ es) inside none = quiet_from p (contents_after c e.call) k es inside none.1 ∙ else_same p c e.call k inside none.0

-- a register with no entry since
pub quiet_register : (p : Plan) (log : List Entry) (at k : ℕ) → k < p.registers → at ≤ length log → NoneOn p k (drop at log)
    → (state_at log (length log)).registers k ≡ (state_at log at).registers k
quiet_register p log at k inside within none =
    ap (λ (l : List Entry). (contents_from blank l).registers k) (take_whole log ∙ sym (take-append-drop at log))
    ∙ (ap (λ (c : Contents). c.registers k) (contents_from-append blank (take at log) (drop at log))
    ∙ quiet_from p (state_at log at) k (drop at log) inside none)

-- what a call leaves is as wide as what it found, and the call
after_wide : (c : Contents) (call : Call) (k : ℕ) → IsWide call → length (c.registers k) ≡ WIDTH → length ((contents_after c call).registers k) ≡ WIDTH
after_wide c (Load reg) k wide was = was
after_wide c (Store reg new) k wide was = go (eqb reg k)
  where
    go : (t : Bool) → length (cond t new (c.registers k)) ≡ WIDTH
    go true = wide
    go false = was
after_wide c (Swap reg old new) k wide was = go (is_same (c.registers reg) old)
  where
    set : (t : Bool) → length (cond t new (c.registers k)) ≡ WIDTH
    set true = wide.1
    set false = was

    go : (t : Bool) → length ((cond t (set_at c.registers reg new) c.registers) k) ≡ WIDTH
    go true = set (eqb reg k)
    go false = was
after_wide c _ k wide was = was

wide_from : (c : Contents) (k : ℕ) (es : List Entry) → ((i : ℕ) (e : Entry) → get_elem? es i ≡ some e → IsWide e.call) → length (c.registers k) ≡ WIDTH
    → length ((contents_from c es).registers k) ≡ WIDTH
wide_from c k [] each was = was
wide_from c k (e ∷ es) each was = wide_from (contents_after c e.call) k es (λ i f at. each (suc i) f at) (after_wide c e.call k (each 0 e refl) was)

pub wide_register : (p : Plan) (log : List Entry) (q k : ℕ) → IsHistory p log → length ((state_at log q).registers k) ≡ WIDTH
wide_register p log q k history = wide_from blank k (take q log) (λ i e at. (history.each i e (at_take log q i e at)).wide) refl

-- a first part of a history
pub history_before : (p : Plan) (a r : List Entry) → IsHistory p (a ++ r) → IsHistory p a
history_before p a r history = record {
  each = λ i e at. let low = at_below a i e at in
      subst (λ (c : Contents). IsEntry p c e) (state_at-append a r i (omega arith)) (history.each i e (at_longer a r i e at));
}
