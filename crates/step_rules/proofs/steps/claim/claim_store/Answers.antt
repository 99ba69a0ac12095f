use Rattle.std.proofs.Common.{◌+◌, sym, ap, ◌∙◌, subst}
use Rattle.step_rules.proofs.Rely.Owed.{claim_call, meets, plan_of}
use Rattle.step_rules.proofs.Ties.Tied.{least_below, own_held, whole_announced}
use Rattle.step_rules.specs.Layout.{claim_at}
use Rattle.step_rules.specs.SeatData.{SeatData}
use Rattle.step_rules.specs.Steps.{MayClaim}
use Rattle.step_rules.specs.World.{nodes_of}
use Rattle.step_rules.proofs.steps.claim.claim_store.Goals as goal

pub claim_place-place-requires : goal.claim_place-place-requires
claim_place-place-requires c = (least_below _ _ _ c.seat.invariant.0.sound (plan_of c.seat.view_is c.requires.ours) c.seat.invariant.1, c.requires.may.claim)

pub store-requires : goal.store-requires
store-requires c =
    let m = meets c.seat.view_is c.shared.view_is c.requires.ours c.shared.invariant.2 c.shared.invariant.3 in
    let t = c.seat.invariant.0 in
    let n = c.args.node in
    let may = subst (λ (d : SeatData). MayClaim c.args.claim n d) (sym c.seat.view_is) c.requires.may in (
      m.table,
      m.within _ c.claim_place-place.ensures.1,
      claim_call _ _ _ _ _ t.sound.some_number m.key_is c.args.claim n _ (c.claim_place-place.ensures.0 ∙ ap (λ x. claim_at x c.args.claim) c.seat.invariant.1)
          (ap (λ k. k + 1) c.from-word.ensures)
          (record {
            claim = may.claim;
            own = λ is. own_held n (nodes_of c.seat.inside.inner.me.0.own) c.seat.inside.free.items c.seat.inside.holding.items
                (t.lists n) (may.own is);
            unlocked = may.unlocked;
          }),
    )

pub invariant_of-seat : goal.invariant_of-seat
invariant_of-seat c =
    let told = c.store.ensures.2 in
    let word = ap (λ k. k + 1) c.from-word.ensures in
    let at = c.claim_place-place.ensures.0 ∙ ap (λ x. claim_at x c.args.claim) c.seat.invariant.1 in
    let may = subst (λ (d : SeatData). MayClaim c.args.claim c.args.node d) (sym c.seat.view_is) c.requires.may in
    whole_announced c.seat.inside c.seat.invariant c.store.new.seat told.0 told.1 c.args.claim c.args.node _ word may.own (told.2 c.args.claim c.args.node at c.requires.may.claim word)
