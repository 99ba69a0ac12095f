use Rattle.std.proofs.Common.{◌≡◌, ◌∙◌, ◌++◌, ◌∷◌, [], All, List, Some, append_assoc, ap, arith, false, length, refl, subst, sym}
use Rattle.std.proofs.lemmas.List.Elements.{All-pop, All-push}
use Rattle.std.specs.Vec.Iter.{into_iter_items}
use Rattle.step_rules.specs.SeatData.{SeatData}
use Rattle.tally_core.proofs.Places.{has_no_draw, seats_push}
use Rattle.tally_core.specs.Drawing.{Drawer, HasNoDraw, IsUndrawn}
use Rattle.tally_core.specs.Workers.{seats_of}
use Rattle.tally_core.proofs.sharing.seat_drawers.Goals as goal

pub loop-seat-preserved : goal.loop-seat-preserved
loop-seat-preserved c =
    let was = c.loop-seat.invariant in
    let drawers : List Drawer = c.loop-seat.drawers.items in
    let one : Drawer = record { seat = c.in-Some.seat; told = record { batches = c.in-Some-pop.batches; drawn = c.in_ok-drawn.drawn; full = false } } in
    let rest : List SeatData = into_iter_items c.next.new.self in
    let steps : into_iter_items c.loop-seat.seat-iterator ≡ c.in-Some.seat ∷ rest = c.in-Some.ensures.steps.0 in
    let pushed : c.push.new.self.items ≡ drawers ++ one ∷ [] = c.in_ok-push.ensures.items in record {
      seats = ap (λ (l : List SeatData). l ++ rest) (seats_push drawers one pushed)
          ∙ (append_assoc (seats_of drawers) (c.in-Some.seat ∷ []) rest ∙ (ap (λ l. seats_of drawers ++ l) (sym steps) ∙ was.seats));
      places = omega (arith, was.places, ap length steps, c.in-Some-pop.ensures.cases, c.pop.new.self.ok.0, c.loop-seat.places.ok.0);
      no_draw = λ batches undrawn count.
          let before = was.no_draw batches undrawn count in
          let parts = All-pop (IsUndrawn batches) c.loop-seat.places.items c.pop.new.self.items (Some c.in-Some-pop.batches) c.in-Some-pop.ensures.items before.0 in (
            parts.0,
            subst (All (HasNoDraw batches)) (sym pushed) (All-push (HasNoDraw batches) drawers one before.1
                (has_no_draw one parts.1 c.in_ok-drawn.ensures.items refl (omega (arith, count, c.in_ok-drawn.ensures.capacity)))),
          );
    }

pub returns-clause-no_draw : goal.returns-clause-no_draw
returns-clause-no_draw c = λ batches undrawn count. (c.loop-seat.invariant.no_draw batches undrawn count).1
