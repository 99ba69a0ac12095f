use Rattle.std.proofs.Common.{◌≡◌, ℕ, subst}
use Rattle.hazard_claims.proofs.Rechecking.{rechecked_other, rechecked_same}
use Rattle.step_rules.specs.Claims.{Tells, WALK}
use Rattle.step_rules.specs.Steps.{IsRechecked, IsWalked}
use Rattle.hazard_claims.proofs.claims.recheck.Goals as goal

pub returns-then-found-seen-clause-rechecked : goal.returns-then-found-seen-clause-rechecked
returns-then-found-seen-clause-rechecked c =
    let old = c.args.seat.now in
    let new = c.recheck_load-found.new.seat in
    let found = c.recheck_load-found.result in
    rechecked_same c.args.claim c.args.cell c.args.seen found old new c.requires.may
    (subst (λ (d : ℕ). Tells d → IsRechecked d c.args.cell c.args.seen found old new) c.number.ensures c.recheck_load-found.ensures.told)
    (subst (λ (d : ℕ). d ≡ WALK → IsWalked c.args.cell c.args.seen found old new) c.number.ensures c.recheck_load-found.ensures.walked) c.if-found-seen.true

pub returns-else-found-seen-clause-rechecked : goal.returns-else-found-seen-clause-rechecked
returns-else-found-seen-clause-rechecked c =
    let old = c.args.seat.now in
    let new = c.recheck_load-found.new.seat in
    let found = c.recheck_load-found.result in
    rechecked_other c.args.claim c.args.cell c.args.seen found old new c.requires.may
    (subst (λ (d : ℕ). Tells d → IsRechecked d c.args.cell c.args.seen found old new) c.number.ensures c.recheck_load-found.ensures.told)
    (subst (λ (d : ℕ). d ≡ WALK → IsWalked c.args.cell c.args.seen found old new) c.number.ensures c.recheck_load-found.ensures.walked) c.if-found-seen.false
