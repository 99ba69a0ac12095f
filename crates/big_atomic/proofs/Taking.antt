-- How many steps were made, by those that were lost.
use Rattle.std.proofs.Common.{◌≡◌, ◌∙◌, ℕ, ◌+◌, ◌*◌, ◌/◌, ◌≤◌, List, [], ◌∷◌, ◌++◌, None, length, drop, append_assoc, length-append, sym, ap, subst, arith}
use Rattle.std.proofs.Math.Seq.{drop-append_seam}
use mathlib.Core.Option.{some}
use lib.ListN.{get_elem?}
use Rattle.big_atomic.proofs.Claimed.{loads_length, loads_still, read_goes, tells_low}
use Rattle.big_atomic.proofs.Paid.{lost-append, still_lost}
use Rattle.big_atomic.specs.Calling.{HasClaim, HasRead, LookedOnce, TakesFew, TurnedOnce, turn_steps}
use Rattle.big_atomic.specs.Turns.{lost_steps}
use Rattle.node_pool.specs.Pool.{load_steps}
use Rattle.step_rules.proofs.Numbers.Places.{at_there}
use Rattle.step_rules.specs.Claims.{Tells}
use Rattle.step_rules.specs.SeatData.{SeatData}
use Rattle.step_rules.specs.Sound.{Sound}
use Rattle.step_rules.specs.Views.{claim_of, counted, silent}
use Rattle.step_rules.specs.declared.layout.TheConstants.{NODE_WIDTH}
use Rattle.step_rules.specs.declared.view.Claim.{Claim}
use Rattle.step_rules.specs.declared.view.Counted.{Counted}
use Rattle.step_rules.specs.declared.view.Kind.TheVariants.{BackupLoad}

pub takes_then : {n m : ℕ} {u v w : SeatData} → TakesFew n u v → TakesFew m v w → TakesFew (n + m) u w
takes_then {u = u} p q =
    let first = p.few in
    let second = q.few in
    record {
      steps = p.steps ++ q.steps;
      trail = q.trail ∙ (ap (λ (t : List Counted). t ++ q.steps) p.trail ∙ append_assoc u.view.trail p.steps q.steps);
      few = omega (arith, length-append p.steps q.steps, lost-append p.steps q.steps);
    }

-- the steps are what the trail has more
pub takes_these : {n : ℕ} {u w : SeatData} (steps : List Counted) → TakesFew n u w → w.view.trail ≡ u.view.trail ++ steps
    → length steps ≤ n + 2 * lost_steps steps
takes_these {n} {u} {w} steps t trail =
    let same : t.steps ≡ steps =
    sym (drop-append_seam u.view.trail t.steps) ∙ (ap (drop (length u.view.trail)) (sym t.trail ∙ trail) ∙ drop-append_seam u.view.trail steps) in
    subst (λ (l : List Counted). length l ≤ n + 2 * lost_steps l) same t.few

-- one look
pub takes_look : {reg word : ℕ} {u w : SeatData} → LookedOnce reg word u w → TakesFew 1 u w
takes_look {reg} {word} {u} {w} f = record { steps = counted (BackupLoad reg) word (length w.view.seen) ∷ []; trail = (f.0 None).trail; few = omega arith }

-- a turn is two steps, and it may be lost
takes_turn : {c reg seen word n : ℕ} {u w : SeatData} → TurnedOnce c reg seen word u w
    → 2 ≤ n + 2 * lost_steps (turn_steps c reg seen word u w) → TakesFew n u w
takes_turn {c} {reg} {seen} {word} {u = u} {w = w} t few = record { steps = turn_steps c reg seen word u w; trail = t.goes.trail; few = few }

pub takes_lost : {c reg seen word n : ℕ} {u v w : SeatData} → TakesFew n u v → TurnedOnce c reg seen word v w
    → lost_steps (turn_steps c reg seen word v w) ≡ 1 → TakesFew n u w
takes_lost {n = n} {u = u} {w = w} p t one =
    subst (λ (m : ℕ). TakesFew m u w) (let e : n + 0 ≡ n = omega arith in e) (takes_then p (takes_turn {n = 0} t (omega (arith, one))))

pub takes_claim : {c reg seen word n : ℕ} {u v w : SeatData} → TakesFew n u v → TurnedOnce c reg seen word v w → TakesFew (n + 2) u w
takes_claim p t = takes_then p (takes_turn {n = 2} t (omega arith))

-- the words of a claimed node are read, one step each
pub takes_read : {c reg word n : ℕ} {rec : List ℕ} {u v w : SeatData} → Tells c → Sound v.view → Sound w.view → TakesFew n u v
    → HasClaim c reg word v → HasRead (word / 2) rec v w → TakesFew (n + NODE_WIDTH) u w
takes_read {c} {reg} {word} {v = v} {w = w} tells sound last p h r =
    let x : Claim = claim_of c v.view in
    let at : get_elem? v.view.claims c ≡ some x = at_there v.view.claims c (silent 0) (omega (arith, sound.claims.four, tells_low c tells)) in
    let wide : length r.words ≡ NODE_WIDTH = ap length (r.read.claimed c x at h.stands) ∙ (sound.claims.there c (word / 2) x at h.stands).1 in
    let loads : List Counted = load_steps (word / 2) 0 r.words (length v.view.seen) in
    takes_then p (record {
      steps = loads;
      trail = (read_goes reg (word / 2) r.words v w r.read last).trail;
      few = omega (
        arith,
        wide,
        loads_length (word / 2) 0 (length v.view.seen) r.words,
        still_lost loads (loads_still (word / 2) 0 (length v.view.seen) r.words),
      );
    })
