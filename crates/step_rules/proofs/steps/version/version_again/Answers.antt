use Rattle.std.proofs.Common.{◌<◌, false, refl, sym, subst}
use Rattle.step_rules.proofs.Rely.Owed.{again_call, meets, plan_of}
use Rattle.step_rules.proofs.Ties.Tied.{lawful, stepped_so}
use Rattle.step_rules.specs.Kinds.Versions.{EndsRead, MayEndRead}
use Rattle.step_rules.specs.Layout.{cells, version_at}
use Rattle.step_rules.specs.SeatData.{SeatData}
use Rattle.step_rules.specs.Views.{again_view}
use Rattle.step_rules.specs.declared.plan.Plan.{Plan}
use Rattle.step_rules.proofs.steps.version.version_again.Goals as goal

pub version_place-place-requires : goal.version_place-place-requires
version_place-place-requires c =
    let may = subst (λ (d : SeatData). MayEndRead c.args.cell d.view) (sym c.seat.view_is) c.requires.may in
    subst (λ (p : Plan). c.args.cell < cells p) (sym (plan_of c.seat.view_is c.requires.ours))
    (subst (λ k. k < cells c.seat.inside.inner.me.0.plan) may.cell (c.seat.invariant.0.sound.reader.cell may.even))

pub load-requires : goal.load-requires
load-requires c =
    let m = meets c.seat.view_is c.shared.view_is c.requires.ours c.shared.invariant.2 c.shared.invariant.3 in
    let may = subst (λ (d : SeatData). MayEndRead c.args.cell d.view) (sym c.seat.view_is) c.requires.may in (
      m.table,
      m.within _ c.version_place-place.ensures.1,
      again_call _ _ _ _ _ c.seat.invariant.0.sound.some_number m.key_is c.args.cell (m.at (λ p. version_at p c.args.cell) _ c.version_place-place.ensures.0) may,
    )

pub invariant_of-seat : goal.invariant_of-seat
invariant_of-seat c =
    let m = meets c.seat.view_is c.shared.view_is c.requires.ours c.shared.invariant.2 c.shared.invariant.3 in
    let told = c.load.ensures.2 in
    stepped_so c.seat.inside c.seat.invariant c.load.new.seat told.0 told.1 (again_view c.args.cell _ c.seat.inside.inner.me.0)
    (told.2 c.args.cell (m.at (λ p. version_at p c.args.cell) _ c.version_place-place.ensures.0)).0 refl refl refl refl

pub returns-clause-ends : goal.returns-clause-ends
returns-clause-ends c =
    let m = meets c.seat.view_is c.shared.view_is c.requires.ours c.shared.invariant.2 c.shared.invariant.3 in
    subst (λ (d : SeatData). EndsRead c.args.cell c.load.result d.view) c.seat.view_is
    (c.load.ensures.2.2 c.args.cell (m.at (λ p. version_at p c.args.cell) _ c.version_place-place.ensures.0)).1

pub returns-clause-law : goal.returns-clause-law
returns-clause-law c = lawful (record c.seat.inside { inner = c.load.new.seat; fresh = false }) (invariant_of-seat c)
