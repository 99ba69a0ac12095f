use Rattle.std.proofs.Common.{◌≡◌, ◌≢◌, ap, ◌∙◌, sym, subst}
use Rattle.step_rules.proofs.Rely.Owed.{clear_call, meets, plan_of}
use Rattle.step_rules.proofs.Ties.Tied.{least_below, whole_cleared}
use Rattle.step_rules.specs.Claims.{OWN}
use Rattle.step_rules.specs.Layout.{claim_at}
use Rattle.step_rules.specs.SeatData.{SeatData}
use Rattle.step_rules.specs.declared.view.Stage.TheVariants.{Locked}
use Rattle.step_rules.proofs.steps.claim.claim_clear.Goals as goal

pub claim_place-place-requires : goal.claim_place-place-requires
claim_place-place-requires c = (least_below _ _ _ c.seat.invariant.0.sound (plan_of c.seat.view_is c.requires.ours) c.seat.invariant.1, c.requires.claim)

pub store-requires : goal.store-requires
store-requires c = let m = meets c.seat.view_is c.shared.view_is c.requires.ours c.shared.invariant.2 c.shared.invariant.3 in (
  m.table,
  m.within _ c.claim_place-place.ensures.1,
  clear_call _ _ _ _ _ c.seat.invariant.0.sound.some_number m.key_is c.args.claim (c.claim_place-place.ensures.0 ∙ ap (λ x. claim_at x c.args.claim) c.seat.invariant.1) c.requires.claim
      (subst (λ (d : SeatData). c.args.claim ≡ OWN → d.view.writer.stage ≢ Locked) (sym c.seat.view_is) c.requires.unlocked),
)

pub invariant_of-seat : goal.invariant_of-seat
invariant_of-seat c =
    let told = c.store.ensures.2 in
    whole_cleared c.seat.inside c.seat.invariant c.store.new.seat told.0 told.1 c.args.claim
    (told.2 c.args.claim (c.claim_place-place.ensures.0 ∙ ap (λ x. claim_at x c.args.claim) c.seat.invariant.1) c.requires.claim)
