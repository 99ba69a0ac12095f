use Rattle.std.proofs.Common.{◌<◌, false, refl, subst}
use Rattle.step_rules.proofs.Rely.Owed.{meets, version_call}
use Rattle.step_rules.proofs.Ties.Tied.{lawful, stepped_so}
use Rattle.step_rules.specs.Layout.{cells, version_at}
use Rattle.step_rules.specs.Views.{version_view}
use Rattle.step_rules.specs.declared.plan.Plan.{Plan}
use Rattle.step_rules.proofs.steps.version.version_load.Goals as goal

pub load-requires : goal.load-requires
load-requires c = let m = meets c.seat.view_is c.shared.view_is c.requires.ours c.shared.invariant.2 c.shared.invariant.3 in (
  m.table,
  m.within _ c.version_place-place.ensures.1,
  version_call _ _ _ _ _ c.seat.invariant.0.sound.some_number m.key_is c.args.cell (m.at (λ p. version_at p c.args.cell) _ c.version_place-place.ensures.0)
      (subst (λ (p : Plan). c.args.cell < cells p) m.plan c.requires.there),
)

pub invariant_of-seat : goal.invariant_of-seat
invariant_of-seat c =
    let m = meets c.seat.view_is c.shared.view_is c.requires.ours c.shared.invariant.2 c.shared.invariant.3 in
    let told = c.load.ensures.2 in
    stepped_so c.seat.inside c.seat.invariant c.load.new.seat told.0 told.1 (version_view c.args.cell _ c.seat.inside.inner.me.0)
    (told.2 c.args.cell (m.at (λ p. version_at p c.args.cell) _ c.version_place-place.ensures.0)) refl refl refl refl

pub returns-clause-law : goal.returns-clause-law
returns-clause-law c = lawful (record c.seat.inside { inner = c.load.new.seat; fresh = false }) (invariant_of-seat c)
