use Rattle.std.proofs.Common.{◌<◌, sym, ap, ◌∙◌, subst}
use Rattle.step_rules.proofs.Keeps.Stores.{stored_nodes}
use Rattle.step_rules.proofs.Rely.Owed.{meets, store_call, plan_of}
use Rattle.step_rules.proofs.Ties.Tied.{own_of, own_there, whole_stored}
use Rattle.step_rules.specs.Layout.{node_at, nodes}
use Rattle.step_rules.specs.SeatData.{SeatData}
use Rattle.step_rules.specs.Steps.{IsUnannounced}
use Rattle.step_rules.specs.World.{has, nodes_of}
use Rattle.step_rules.specs.declared.plan.Plan.{Plan}
use Rattle.step_rules.specs.declared.view.View.{View}
use Rattle.step_rules.proofs.steps.node.node_store.Goals as goal

pub node_place-place-requires : goal.node_place-place-requires
node_place-place-requires c =
    let n = c.args.node in (
      subst (λ (p : Plan). n < nodes p) (sym (plan_of c.seat.view_is c.requires.ours))
          (own_there n c.seat.inside.inner.me.0 c.seat.invariant.0.sound (own_of c.seat.inside n c.seat.invariant c.seat.view_is c.requires.own)),
      c.requires.word,
    )

pub store-requires : goal.store-requires
store-requires c = let m = meets c.seat.view_is c.shared.view_is c.requires.ours c.shared.invariant.2 c.shared.invariant.3 in (
  m.table,
  m.within _ c.node_place-place.ensures.1,
  store_call _ _ _ _ _ c.seat.invariant.0.sound.some_number m.key_is c.args.node c.args.j c.args.word (m.at (λ p. node_at p c.args.node c.args.j) _ c.node_place-place.ensures.0)
      (own_of c.seat.inside c.args.node c.seat.invariant c.seat.view_is c.requires.own)
      (subst (λ (s : SeatData). IsUnannounced c.args.node s.view) (sym c.seat.view_is) c.requires.unannounced) c.requires.word,
)

pub invariant_of-seat : goal.invariant_of-seat
invariant_of-seat c =
    let m = meets c.seat.view_is c.shared.view_is c.requires.ours c.shared.invariant.2 c.shared.invariant.3 in
    let told = c.store.ensures.2 in
    whole_stored c.seat.inside c.seat.invariant c.store.new.seat told.0 told.1 c.args.node c.args.j c.args.word
    (told.2 c.args.node c.args.j (m.at (λ p. node_at p c.args.node c.args.j) _ c.node_place-place.ensures.0) c.requires.word)

pub hold-requires-clause-own : goal.hold-requires-clause-own
hold-requires-clause-own c =
    let m = meets c.seat.view_is c.shared.view_is c.requires.ours c.shared.invariant.2 c.shared.invariant.3 in
    let after = c.store.ensures.2.2 c.args.node c.args.j (m.at (λ p. node_at p c.args.node c.args.j) _ c.node_place-place.ensures.0) c.requires.word in
    ap (λ l. has l c.args.node) (ap (λ (v : View). nodes_of v.own) after ∙ stored_nodes c.args.node c.args.j c.args.word c.seat.inside.inner.me.0.own)
    ∙ own_of c.seat.inside c.args.node c.seat.invariant c.seat.view_is c.requires.own
