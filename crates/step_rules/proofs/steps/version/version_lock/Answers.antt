use Rattle.std.proofs.Common.{◌+◌, ◌<◌, false, refl, sym, subst, ⊎_elim, arith}
use Rattle.std.proofs.lemmas.Bool.{cases_eq}
use Rattle.step_rules.proofs.Rely.Owed.{lock_call, meets, plan_of}
use Rattle.step_rules.proofs.Ties.Tied.{lawful, stepped_so}
use Rattle.step_rules.specs.Kinds.Versions.{MayLock}
use Rattle.step_rules.specs.Layout.{cells, version_at}
use Rattle.step_rules.specs.SeatData.{SeatData}
use Rattle.step_rules.specs.Views.{locked_view, missed_view}
use Rattle.step_rules.specs.declared.plan.Plan.{Plan}
use Rattle.step_rules.proofs.steps.version.version_lock.Goals as goal

pub version_place-place-requires : goal.version_place-place-requires
version_place-place-requires c =
    let may = subst (λ (d : SeatData). MayLock c.args.cell c.args.version d.view) (sym c.seat.view_is) c.requires.may in
    subst (λ (p : Plan). c.args.cell < cells p) (sym (plan_of c.seat.view_is c.requires.ours))
    (subst (λ k. k < cells c.seat.inside.inner.me.0.plan) may.cell (c.seat.invariant.0.sound.writer.cell may.flies))

pub overflow_add-locked : goal.overflow_add-locked
overflow_add-locked c = let low = c.requires.may.small in omega arith

pub compare_exchange-requires : goal.compare_exchange-requires
compare_exchange-requires c =
    let m = meets c.seat.view_is c.shared.view_is c.requires.ours c.shared.invariant.2 c.shared.invariant.3 in
    let may = subst (λ (d : SeatData). MayLock c.args.cell c.args.version d.view) (sym c.seat.view_is) c.requires.may in (
      m.table,
      m.within _ c.version_place-place.ensures.1,
      lock_call _ _ _ _ _ c.seat.invariant.0.sound.some_number m.key_is c.args.cell c.args.version (c.args.version + 1)
          (m.at (λ p. version_at p c.args.cell) _ c.version_place-place.ensures.0) refl may,
    )

pub invariant_of-seat : goal.invariant_of-seat
invariant_of-seat c =
    let m = meets c.seat.view_is c.shared.view_is c.requires.ours c.shared.invariant.2 c.shared.invariant.3 in
    let told = c.compare_exchange.ensures.2 in
    let is = told.2 c.args.cell (m.at (λ p. version_at p c.args.cell) _ c.version_place-place.ensures.0) in
    let v = c.seat.inside.inner.me.0 in ⊎_elim
    (λ hit. stepped_so c.seat.inside c.seat.invariant c.compare_exchange.new.seat told.0 told.1 (locked_view c.args.cell c.args.version v) (is.0 hit) refl refl refl refl)
    (λ miss. stepped_so c.seat.inside c.seat.invariant c.compare_exchange.new.seat told.0 told.1 (missed_view c.args.cell c.args.version _ v) (is.1 miss) refl refl refl refl)
    (cases_eq c.compare_exchange.result c.args.version)

pub returns-clause-law : goal.returns-clause-law
returns-clause-law c = lawful (record c.seat.inside { inner = c.compare_exchange.new.seat; fresh = false }) (invariant_of-seat c)
