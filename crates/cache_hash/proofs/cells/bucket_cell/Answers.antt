use Rattle.std.proofs.Common.{◌<◌, ◌+◌, arith, ap, subst, sym}
use Rattle.seat_history.specs.Key.{key_number}
use Rattle.step_rules.proofs.Order.BucketOf.{bucket_below, key_there}
use Rattle.step_rules.specs.Layout.{cells}
use Rattle.step_rules.specs.declared.plan.Plan.{Plan}
use Rattle.cache_hash.proofs.cells.bucket_cell.Goals as goal

pub overflow_add-result : goal.overflow_add-result
overflow_add-result c =
    let p = c.plan-plan.result in
    let below = bucket_below p.buckets (key_number c.args.key) (subst (λ (q : Plan). 0 < q.buckets) (sym c.plan-plan.ensures) c.requires.some) in
    let registers = c.requires.plan.registers in
    let buckets = c.requires.plan.buckets in
    omega (
      arith,
      ap (λ (q : Plan). q.registers) c.plan-plan.ensures,
      ap (λ (q : Plan). q.buckets) c.plan-plan.ensures,
      c.bucket_index.ensures.index,
    )

pub returns-clause-there : goal.returns-clause-there
returns-clause-there c =
    let is = c.bucket_index.ensures.index in
    subst (λ (q : Plan). c.plan-plan.result.registers + c.bucket_index.result < cells q) c.plan-plan.ensures
    (subst (λ j. c.plan-plan.result.registers + j < cells c.plan-plan.result) (sym is)
    (key_there c.plan-plan.result (key_number c.args.key) (subst (λ (q : Plan). 0 < q.buckets) (sym c.plan-plan.ensures) c.requires.some)))
