use Rattle.std.proofs.Common.{◌+◌, ◌<◌, false, refl, inl, sym, subst, arith}
use Rattle.step_rules.proofs.Rely.Owed.{meets, plan_of, release_call}
use Rattle.step_rules.proofs.Rely.Writers.{locked_flies}
use Rattle.step_rules.proofs.Ties.Tied.{lawful, stepped_so}
use Rattle.step_rules.specs.Kinds.Versions.{MayRelease}
use Rattle.step_rules.specs.Layout.{cells, version_at}
use Rattle.step_rules.specs.SeatData.{SeatData}
use Rattle.step_rules.specs.Views.{released_view}
use Rattle.step_rules.specs.declared.plan.Plan.{Plan}
use Rattle.step_rules.proofs.steps.version.version_release.Goals as goal

pub version_place-place-requires : goal.version_place-place-requires
version_place-place-requires c =
    let may = subst (λ (d : SeatData). MayRelease c.args.cell c.args.version d.view) (sym c.seat.view_is) c.requires.may in
    let v = c.seat.inside.inner.me.0 in
    subst (λ (p : Plan). c.args.cell < cells p) (sym (plan_of c.seat.view_is c.requires.ours))
    (subst (λ k. k < cells v.plan) may.cell (c.seat.invariant.0.sound.writer.cell (locked_flies v.writer may.locked)))

pub overflow_add-next : goal.overflow_add-next
overflow_add-next c =
    let may = subst (λ (d : SeatData). MayRelease c.args.cell c.args.version d.view) (sym c.seat.view_is) c.requires.may in
    let low = (c.seat.invariant.0.sound.writer.even (inl may.locked)).1 in
    let is = may.version in omega arith

pub store-requires : goal.store-requires
store-requires c =
    let m = meets c.seat.view_is c.shared.view_is c.requires.ours c.shared.invariant.2 c.shared.invariant.3 in
    let may = subst (λ (d : SeatData). MayRelease c.args.cell c.args.version d.view) (sym c.seat.view_is) c.requires.may in (
      m.table,
      m.within _ c.version_place-place.ensures.1,
      release_call _ _ _ _ _ c.seat.invariant.0.sound.some_number m.key_is c.args.cell c.args.version (c.args.version + 2)
          (m.at (λ p. version_at p c.args.cell) _ c.version_place-place.ensures.0) refl may,
    )

pub invariant_of-seat : goal.invariant_of-seat
invariant_of-seat c =
    let m = meets c.seat.view_is c.shared.view_is c.requires.ours c.shared.invariant.2 c.shared.invariant.3 in
    let told = c.store.ensures.2 in
    stepped_so c.seat.inside c.seat.invariant c.store.new.seat told.0 told.1 (released_view c.args.cell c.args.version c.seat.inside.inner.me.0)
    (told.2 c.args.cell c.args.version (m.at (λ p. version_at p c.args.cell) _ c.version_place-place.ensures.0) refl) refl refl refl refl

pub returns-clause-law : goal.returns-clause-law
returns-clause-law c = lawful (record c.seat.inside { inner = c.store.new.seat; fresh = false }) (invariant_of-seat c)
