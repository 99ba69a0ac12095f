use Rattle.std.proofs.Common.{◌≡◌, ◌≤◌, ◌*◌, ◌-◌, ◌∙◌, ℕ, List, [], true, refl, ap, sym, subst, arith}
use Rattle.atomic_table.specs.Seated.{TableId}
use Rattle.step_rules.specs.Layout.{cells}
use Rattle.step_rules.specs.Views.{count_up, starting}
use Rattle.step_rules.specs.declared.layout.Layout.{Layout}
use Rattle.step_rules.proofs.World.Sizes.{nodes_parts, own_count}
use Rattle.step_rules.proofs.opening.with_room.Goals as goal

pub overflow_sub-own : goal.overflow_sub-own
overflow_sub-own c = subst (λ (l : Layout). l.cells ≤ l.nodes) (sym c.requires.layout) (omega (arith, nodes_parts c.args.plan.now))

pub free_nodes-requires : goal.free_nodes-requires
free_nodes-requires c = record {
  sizes = subst (λ (l : Layout). l.cells ≤ l.nodes) (sym c.requires.layout) (omega (arith, nodes_parts c.args.plan.now));
  room = omega arith;
}

pub first_seat-seat-requires-clause-free : goal.first_seat-seat-requires-clause-free
first_seat-seat-requires-clause-free c = c.in_ok-free.ensures.items
    ∙ (ap (λ (l : Layout). count_up l.cells (l.nodes - l.cells)) c.requires.layout ∙ ap (count_up (cells c.args.plan.now)) (own_count c.args.plan.now))

pub first_seat-seat-requires-clause-room : goal.first_seat-seat-requires-clause-room
first_seat-seat-requires-clause-room c =
    let own : c.args.layout.now.nodes - c.args.layout.now.cells ≡ c.args.plan.now.seats * c.args.plan.now.share = ap (λ (l : Layout). l.nodes - l.cells) c.requires.layout
    ∙ own_count c.args.plan.now in (
      omega (arith, c.in_ok-free.ensures.capacity),
      omega (arith, c.in_ok-holding.ensures.capacity),
      omega (arith, c.in_ok-retired.ensures.capacity),
      omega (arith, c.in_ok-noted.ensures.capacity),
      omega (arith, c.in_ok-scan_found.ensures.capacity),
    )

pub returns : goal.returns
returns c = record {
  built = record {
    plan = refl;
    seat = c.first_seat-seat.ensures.seat
        ∙ ap (λ (o : TableId). record { object = o; view = starting c.args.plan.now; free = c.in_ok-free.free.items; holding = []; noted = []; first = true; fresh = true })
        c.in_ok-table.ensures.seat.0
        ∙ ap (λ (l : List ℕ). record { object = c.in_ok-table.table.shared.table_id; view = starting c.args.plan.now; free = l; holding = []; noted = []; first = true; fresh = true })
        (c.in_ok-free.ensures.items ∙ (ap (λ (l : Layout). count_up l.cells (l.nodes - l.cells)) c.requires.layout ∙ ap (count_up (cells c.args.plan.now)) (own_count c.args.plan.now)));
  };
  law = c.first_seat-seat.ensures.law;
}
