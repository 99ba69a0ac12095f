use Rattle.std.proofs.Common.{◌+◌, ◌*◌, ◌<◌, false, sym, ap, subst, arith}
use Rattle.step_rules.proofs.Rely.Owed.{meets, plan_of, unmark_call}
use Rattle.step_rules.proofs.Rely.Writers.{released_flies}
use Rattle.step_rules.proofs.Ties.Tied.{lawful, whole_looked}
use Rattle.step_rules.specs.Kinds.Versions.{MayUnmark}
use Rattle.step_rules.specs.Layout.{backup_at, cells}
use Rattle.step_rules.specs.SeatData.{SeatData}
use Rattle.step_rules.specs.declared.plan.Plan.{Plan}
use Rattle.step_rules.specs.declared.view.Kind.TheVariants.{MarkClear}
use Rattle.step_rules.proofs.steps.mark.mark_clear.Goals as goal

pub backup_place-place-requires : goal.backup_place-place-requires
backup_place-place-requires c =
    let may = subst (λ (d : SeatData). MayUnmark c.args.cell c.args.node d.view) (sym c.seat.view_is) c.requires.may in
    let v = c.seat.inside.inner.me.0 in
    subst (λ (p : Plan). c.args.cell < cells p) (sym (plan_of c.seat.view_is c.requires.ours))
    (subst (λ k. k < cells v.plan) may.cell (c.seat.invariant.0.sound.writer.cell (released_flies v.writer may.released)))

pub compare_exchange-requires : goal.compare_exchange-requires
compare_exchange-requires c =
    let m = meets c.seat.view_is c.shared.view_is c.requires.ours c.shared.invariant.2 c.shared.invariant.3 in
    let may = subst (λ (d : SeatData). MayUnmark c.args.cell c.args.node d.view) (sym c.seat.view_is) c.requires.may in
    let from = c.from.ensures in (
      m.table,
      m.within _ c.backup_place-place.ensures.1,
      unmark_call _ _ _ _ _ c.seat.invariant.0.sound.some_number m.key_is c.args.cell c.args.node _ _
          (m.at (λ p. backup_at p c.args.cell) _ c.backup_place-place.ensures.0) (ap (λ n. 2 * n + 1) from) (omega arith) may,
    )

pub invariant_of-seat : goal.invariant_of-seat
invariant_of-seat c =
    let m = meets c.seat.view_is c.shared.view_is c.requires.ours c.shared.invariant.2 c.shared.invariant.3 in
    let told = c.compare_exchange.ensures.2 in
    whole_looked c.seat.inside c.seat.invariant c.compare_exchange.new.seat told.0 told.1 (MarkClear c.args.cell c.args.node) c.args.cell _
    (told.2 c.args.cell c.args.node (m.at (λ p. backup_at p c.args.cell) _ c.backup_place-place.ensures.0) (ap (λ n. 2 * n + 1) c.from.ensures))

pub returns-clause-law : goal.returns-clause-law
returns-clause-law c = lawful (record c.seat.inside { inner = c.compare_exchange.new.seat; fresh = false }) (invariant_of-seat c)
