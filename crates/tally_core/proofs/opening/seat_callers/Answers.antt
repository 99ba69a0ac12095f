use Rattle.std.proofs.Common.{◌≡◌, ◌++◌, ◌∷◌, [], ◌∙◌, All, List, append_assoc, ap, arith, length, subst, sym}
use Rattle.std.proofs.lemmas.List.Elements.{All-push}
use Rattle.std.specs.Vec.Iter.{into_iter_items}
use mathlib.Core.List.{map-append}
use Rattle.step_rules.specs.SeatData.{SeatData}
use Rattle.tally_core.specs.Workers.{Caller, HasRoom, lines_by, seats_of}
use Rattle.tally_core.proofs.opening.seat_callers.Goals as goal

pub loop-seat-preserved : goal.loop-seat-preserved
loop-seat-preserved c =
    let was = c.loop-seat.invariant in
    let callers : List Caller = c.loop-seat.callers.items in
    let one : Caller = record { seat = c.in-Some.seat; told = c.in_ok-told.told } in
    let rest : List SeatData = into_iter_items c.next.new.self in
    let steps : into_iter_items c.loop-seat.seat-iterator ≡ c.in-Some.seat ∷ rest = c.in-Some.ensures.steps.0 in
    let pushed : c.push.new.self.items ≡ callers ++ one ∷ [] = c.in_ok-push.ensures.items in
    let who = ap (λ n. length (lines_by n c.args.lines.now)) c.number.ensures in record {
      seats = ap (λ (l : List Caller). seats_of l ++ rest) pushed
          ∙ (ap (λ l. l ++ rest) (map-append (λ (z : Caller). z.seat) callers (one ∷ []))
          ∙ (append_assoc (seats_of callers) (c.in-Some.seat ∷ []) rest ∙ (ap (λ l. seats_of callers ++ l) (sym steps) ∙ was.seats)));
      room = subst (All (HasRoom c.args.lines.now)) (sym pushed) (All-push (HasRoom c.args.lines.now) callers one was.room (record {
        none = c.in_ok-told.ensures.items;
        room = omega (arith, c.in_ok-told.ensures.capacity, c.count_lines-count.ensures, who);
      }));
    }
