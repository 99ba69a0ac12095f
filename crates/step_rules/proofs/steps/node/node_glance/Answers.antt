use Rattle.std.proofs.Common.{◌<◌, ◌∙◌, ap, false, refl, ⊎_elim, sym, subst}
use Rattle.step_rules.proofs.Rely.Owed.{glance_call, meets, plan_of}
use Rattle.step_rules.proofs.Ties.Tied.{data_of, lawful, own_held, own_there, stepped_so}
use Rattle.step_rules.specs.Layout.{node_at, nodes}
use Rattle.step_rules.specs.SeatData.{SeatData}
use Rattle.step_rules.specs.Steps.{MayLoad, stepped}
use Rattle.step_rules.specs.World.{nodes_of}
use Rattle.step_rules.specs.declared.plan.Plan.{Plan}
use Rattle.step_rules.proofs.steps.node.node_glance.Goals as goal

-- the node is the seat's own, or a claim stands on it
pub node_place-place-requires : goal.node_place-place-requires
node_place-place-requires c =
    let t = c.seat.invariant.0 in
    let v = c.seat.inside.inner.me.0 in
    let n = c.args.node in (
      subst (λ (p : Plan). n < nodes p) (sym (plan_of c.seat.view_is c.requires.ours)) (⊎_elim
          (λ h. own_there n v t.sound (own_held n (nodes_of v.own) c.seat.inside.free.items c.seat.inside.holding.items (t.lists n) h))
          (λ h. (t.sound.claims.there h.0 n h.1 h.2 h.3).0)
          (subst (λ (s : SeatData). MayLoad n s) (sym c.seat.view_is) c.requires.known)),
      c.requires.word,
    )

pub load-requires : goal.load-requires
load-requires c = let m = meets c.seat.view_is c.shared.view_is c.requires.ours c.shared.invariant.2 c.shared.invariant.3 in (
  m.table,
  m.within _ c.node_place-place.ensures.1,
  glance_call _ _ _ _ _ c.seat.invariant.0.sound.some_number m.key_is c.args.node c.args.j (m.at (λ p. node_at p c.args.node c.args.j) _ c.node_place-place.ensures.0) c.requires.word,
)

pub invariant_of-seat : goal.invariant_of-seat
invariant_of-seat c =
    let m = meets c.seat.view_is c.shared.view_is c.requires.ours c.shared.invariant.2 c.shared.invariant.3 in
    let told = c.load.ensures.2 in
    stepped_so c.seat.inside c.seat.invariant c.load.new.seat told.0 told.1 c.seat.inside.inner.me.0
    (told.2 c.args.node c.args.j (m.at (λ p. node_at p c.args.node c.args.j) _ c.node_place-place.ensures.0) c.requires.word).0 refl refl refl refl

pub returns-clause-law : goal.returns-clause-law
returns-clause-law c = lawful (record c.seat.inside { inner = c.load.new.seat; fresh = false }) (invariant_of-seat c)

pub returns-clause-seat : goal.returns-clause-seat
returns-clause-seat c =
    let m = meets c.seat.view_is c.shared.view_is c.requires.ours c.shared.invariant.2 c.shared.invariant.3 in
    let after = (c.load.ensures.2.2 c.args.node c.args.j (m.at (λ p. node_at p c.args.node c.args.j) _ c.node_place-place.ensures.0) c.requires.word).0 in
    (λ i. record (data_of c.seat.inside) { object = c.load.ensures.0 i; view = after i; fresh = false }) ∙ ap (λ (d : SeatData). stepped d.view d) c.seat.view_is
