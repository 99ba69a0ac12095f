use Rattle.std.proofs.Common.{◌*◌, ◌∙◌, ℕ, length, refl, replicate, subst, sym, ap, true, false, arith}
use Rattle.std.proofs.Math.Nat.{mul_comm}
use Rattle.atomic_table.specs.Table.{Me}
use Rattle.seat_history.specs.declared.call.Call.{Call}
use Rattle.step_rules.proofs.World.Opens.{number_first, starts_fresh}
use Rattle.step_rules.proofs.Numbers.Sets.{length-count_up}
use Rattle.step_rules.proofs.Ties.Tied.{lawful, new_whole}
use Rattle.step_rules.specs.Sound.{Sound}
use Rattle.step_rules.specs.Views.{starting}
use Rattle.step_rules.specs.declared.layout.TheConstants.{CLAIMS}
use Rattle.step_rules.specs.declared.seat.Seat.TheInside.{Inside}
use Rattle.step_rules.specs.declared.view.View.{View}
use Rattle.step_rules.proofs.opening.first_seat.Goals as goal

module _ (c : goal.After-from) where
  -- the first seat
  abbrev made : Inside
  made = let p = c.args.plan.now in record {
    inner = c.args.inner;
    least = 0;
    numbers = p.seats;
    first = true;
    fresh = true;
    holds_record = false;
    changes = p.changes * c.from.result;
    removes = p.removes * p.seats;
    free = c.args.free;
    holding = c.args.holding;
    retired = c.args.retired;
    noted = c.args.noted;
    claims = replicate CLAIMS 0;
    scan_next = 0;
    scan_old = 0;
    scan_found = c.args.scan_found;
  }

pub invariant_of-result : goal.invariant_of-result
invariant_of-result c = let p = c.args.plan.now in let swapped = mul_comm p.share p.seats in let room = c.requires.room in
    new_whole (made c) (starting p) c.requires.view (subst (λ (me : Me Call View). Sound me.0) (sym c.requires.view) c.requires.sound) (record {
      fresh = starts_fresh p c.args.free.items c.args.holding.items c.requires.free c.requires.none.0;
      numbers = sym (length-count_up 0 p.seats);
      least = sym (number_first p.seats);
      no_record = refl;
      changes = ap (λ n. p.changes * n) (c.from.ensures ∙ sym (length-count_up 0 p.seats));
      removes = ap (λ n. p.removes * n) (sym (length-count_up 0 p.seats));
      retired = c.requires.none.1;
      few_noted = omega (arith, ap (length {A = ℕ}) c.requires.none.2);
      claims = refl;
      scan_next = refl;
      scan_old = refl;
      scan_found = c.requires.none.3;
      room_free = omega (arith, room.0);
      room_holding = omega (arith, room.1);
      room_retired = omega (arith, room.2);
      room_noted = omega (arith, room.3);
      room_found = room.4;
    })

pub returns-clause-law : goal.returns-clause-law
returns-clause-law c = lawful (made c) (invariant_of-result c)
