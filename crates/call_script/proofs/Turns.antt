-- Each caller's own lines may be made in turn.
use Rattle.std.proofs.Common.{◌≡◌, ◌∙◌, ℕ, Bool, true, false, cond, eqb, List, [], ◌∷◌, Option, filter, is_some, map, refl, ap, subst}
use Rattle.std.proofs.lemmas.Bool.{eqb-true}
use Rattle.seat_history.specs.Object.{MayCall, Object, object_after}
use Rattle.seat_history.specs.Step.{held_after}
use Rattle.seat_history.specs.declared.call.Call.{Call}
use Rattle.seat_history.specs.declared.call.Call.TheVariants.{Hold, Look, Release}
use Rattle.seat_history.specs.declared.entry.Entry.{Entry}
use Rattle.step_rules.proofs.Line.Records.{is_held_after}
use Rattle.step_rules.specs.Holding.{holds_after}
use Rattle.call_script.specs.Holding.{MayTake, MayTurn, calls_by}
use Rattle.call_script.specs.Script.{MayRun}

may_take : (held : Option (List ℕ)) (call : Call) → MayCall held call → MayTake (is_some held) call
may_take held (Hold reg) may = ap is_some may
may_take held Look may = may
may_take held Release may = may
may_take held _ may = tt

-- one more line, which is the caller's own or another's
turn_more : (b holds after : Bool) (line : Entry) (lines : List Entry) → (b ≡ true → MayTake holds line.call × (after ≡ holds_after holds line.call)) → (b ≡ false → after ≡ holds)
    → MayTurn after (map (λ (line : Entry). line.call) lines) → MayTurn holds (map (λ (line : Entry). line.call) (cond b (line ∷ lines) lines))
turn_more true holds after line lines own other more =
    ((own refl).0, subst (λ h. MayTurn h (map (λ (line : Entry). line.call) lines)) (own refl).1 more)
turn_more false holds after line lines own other more = subst (λ h. MayTurn h (map (λ (line : Entry). line.call) lines)) (other refl) more

pub may_turn : (callers : ℕ) (object : Object) (lines : List Entry) → MayRun callers object lines → (x : ℕ) → MayTurn (is_some (object.held x)) (calls_by x lines)
may_turn callers object [] may x = tt
may_turn callers object (line ∷ lines) may x =
    let held = held_after object.contents (object.held line.caller) line.call in
    let next : Bool → Bool = λ b. is_some (cond b held (object.held x)) in
    turn_more (eqb line.caller x) (is_some (object.held x)) (next (eqb line.caller x)) line (filter (λ (line : Entry). eqb line.caller x) lines)
    (λ b. let e = eqb-true line.caller x b in (
      subst (λ n. MayTake (is_some (object.held n)) line.call) e (may_take (object.held line.caller) line.call may.1),
      ap next b ∙ (is_held_after object.contents (object.held line.caller) line.call ∙ ap (λ n. holds_after (is_some (object.held n)) line.call) e),
    ))
    (λ b. ap next b) (may_turn callers (object_after object line) lines may.2 x)
