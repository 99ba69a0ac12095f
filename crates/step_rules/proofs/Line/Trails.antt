-- What a trail stays as steps and stands are added.
use Rattle.std.proofs.Common.{◌≡◌, ℕ, ◌≤◌, List, [], ◌∷◌, ◌++◌, length, length-append, append-nil, sym, ap, arith, ⊎_elim}
use Rattle.seat_history.specs.declared.entry.Entry.{Entry}
use Rattle.step_rules.specs.History.{GoesOn}
use Rattle.step_rules.specs.Trail.{IsTrail}
use Rattle.step_rules.specs.declared.view.Counted.{Counted}
use Rattle.atomic_table.proofs.Lists.{at_snoc}

pub longer_seen : (a b : List Entry) → GoesOn a b → length a ≤ length b
longer_seen a b on = omega (arith, ap length on.1, length-append a on.0)

-- one more step
pub trail_step : {since : ℕ} {steps : List Counted} {seen : List Entry} (seen' : List Entry) (c : Counted) → IsTrail since steps seen → GoesOn seen seen' → c.seen ≤ length seen'
    → IsTrail since (steps ++ c ∷ []) seen'
trail_step {steps = steps} {seen = seen} seen' c t on within = let l = longer_seen seen seen' on in let s = t.within in record {
  within = omega (arith, length-append steps (c ∷ []));
  each = λ i d e. ⊎_elim (λ q. let b = t.each i d q in omega arith) (λ (q : c ≡ d). omega (arith, ap (λ (z : Counted). z.seen) q)) (at_snoc steps c d i e);
}

-- the last stand was added just now
pub trail_stand : {since : ℕ} {steps : List Counted} {seen : List Entry} → IsTrail since steps seen → IsTrail (length steps) steps seen
trail_stand t = record { within = omega arith; each = t.each }

pub trail_more : {since : ℕ} {steps : List Counted} {seen : List Entry} (seen' : List Entry) → IsTrail since steps seen → GoesOn seen seen' → IsTrail since steps seen'
trail_more {seen = seen} seen' t on = let l = longer_seen seen seen' on in record { within = t.within; each = λ i d e. let b = t.each i d e in omega arith }

pub no_trail : (seen : List Entry) → IsTrail 0 [] seen
no_trail seen = record { within = omega arith; each = λ i d e. absurd cc }

pub goes_on_same : (seen : List Entry) → GoesOn seen seen
goes_on_same seen = ([], sym (append-nil seen))
