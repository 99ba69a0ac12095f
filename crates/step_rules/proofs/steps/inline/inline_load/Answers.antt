use Rattle.std.proofs.Common.{◌<◌, false, refl, sym, subst}
use Rattle.step_rules.proofs.Rely.Owed.{inline_call, meets, plan_of}
use Rattle.step_rules.proofs.Ties.Tied.{lawful, stepped_so}
use Rattle.step_rules.specs.Kinds.Versions.{MayRead}
use Rattle.step_rules.specs.Layout.{cells, inline_at}
use Rattle.step_rules.specs.SeatData.{SeatData}
use Rattle.step_rules.specs.Views.{inline_view}
use Rattle.step_rules.specs.declared.plan.Plan.{Plan}
use Rattle.step_rules.proofs.steps.inline.inline_load.Goals as goal

pub inline_place-place-requires : goal.inline_place-place-requires
inline_place-place-requires c =
    let may = subst (λ (d : SeatData). MayRead c.args.cell c.args.j d.view) (sym c.seat.view_is) c.requires.may in (
      subst (λ (p : Plan). c.args.cell < cells p) (sym (plan_of c.seat.view_is c.requires.ours))
          (subst (λ k. k < cells c.seat.inside.inner.me.0.plan) may.cell (c.seat.invariant.0.sound.reader.cell may.even)),
      may.inside,
    )

pub load-requires : goal.load-requires
load-requires c =
    let m = meets c.seat.view_is c.shared.view_is c.requires.ours c.shared.invariant.2 c.shared.invariant.3 in
    let may = subst (λ (d : SeatData). MayRead c.args.cell c.args.j d.view) (sym c.seat.view_is) c.requires.may in (
      m.table,
      m.within _ c.inline_place-place.ensures.1,
      inline_call _ _ _ _ _ c.seat.invariant.0.sound.some_number m.key_is c.args.cell c.args.j (m.at (λ p. inline_at p c.args.cell c.args.j) _ c.inline_place-place.ensures.0) may,
    )

pub invariant_of-seat : goal.invariant_of-seat
invariant_of-seat c =
    let m = meets c.seat.view_is c.shared.view_is c.requires.ours c.shared.invariant.2 c.shared.invariant.3 in
    let told = c.load.ensures.2 in
    stepped_so c.seat.inside c.seat.invariant c.load.new.seat told.0 told.1 (inline_view c.args.cell c.args.j _ c.seat.inside.inner.me.0)
    (told.2 c.args.cell c.args.j (m.at (λ p. inline_at p c.args.cell c.args.j) _ c.inline_place-place.ensures.0) c.requires.may.inside) refl refl refl refl

pub returns-clause-law : goal.returns-clause-law
returns-clause-law c = lawful (record c.seat.inside { inner = c.load.new.seat; fresh = false }) (invariant_of-seat c)
