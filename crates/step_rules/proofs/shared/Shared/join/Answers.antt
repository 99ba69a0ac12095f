use Rattle.std.proofs.Common.{◌≡◌, ◌<◌, true, false, not, ◌&&◌, ℕ, List, ◌+◌, ◌++◌, ap, sym, subst, ◌∙◌, arith}
use Rattle.std.proofs.lemmas.Nat.{mul-le}
use Rattle.seat_history.specs.declared.entry.Entry.{Entry}
use Rattle.step_rules.specs.History.{GoesOn}
use Rattle.step_rules.specs.SeatData.{SeatData, all_zero, claim_words, holds_record, is_empty, is_quiet}
use Rattle.step_rules.specs.Views.{joined_view}
use Rattle.step_rules.proofs.Ties.Joining.{count_few, free_room, merged, quiet_claims, removes_few, record_same, retired_room, seen_parts, whole_joined}
use Rattle.step_rules.proofs.Keeps.Joins.{joins}
use Rattle.step_rules.proofs.Ties.Tied.{data_of, lawful}
use Rattle.step_rules.proofs.Rely.Owed.{meets}
use Rattle.step_rules.proofs.World.Sizes.{some_word}
use Rattle.step_rules.proofs.shared.Shared.join.Goals as goal

pub join_seat-requires : goal.join_seat-requires
join_seat-requires c =
    let k = c.self.invariant in
    let first = meets c.into.view_is c.self.view_is c.requires.ours k.2 k.3 in
    let second = meets c.from.view_is c.self.view_is c.requires.theirs k.2 k.3 in
    let m = c.into.inside.inner in
    let o = c.from.inside.inner in (
      first.table,
      second.table,
      c.from.invariant.0.slots,
      subst (λ (n : ℕ). 0 < n) (sym k.3) (some_word c.self.inside.plan k.0),
      joins c.self.inside.table.shared.key m.id o.id m.me.0 o.me.0 first.key_is c.into.invariant.0.sound.some_number
          (quiet_claims (data_of c.from.inside) (ap is_quiet c.from.view_is ∙ c.requires.quiet.1)),
    )

pub overflow_add-into : goal.overflow_add-into
overflow_add-into c =
    let m = merged c.into.inside c.from.inside c.into.invariant c.from.invariant c.into.view_is c.from.view_is c.requires.first c.requires.quiet
    c.settle.ensures.same.2 c.join_seat.ensures.2 c.settle.ensures.sound in
    let few = count_few m in let seats = c.into.invariant.0.sound.plan.seats.1 in omega arith

pub overflow_add-into-3 : goal.overflow_add-into-3
overflow_add-into-3 c =
    let m = merged c.into.inside c.from.inside c.into.invariant c.from.invariant c.into.view_is c.from.view_is c.requires.first c.requires.quiet
    c.settle.ensures.same.2 c.join_seat.ensures.2 c.settle.ensures.sound in
    let few = removes_few m in let plan = c.into.invariant.0.sound.plan in let removes = plan.removes in let seats = plan.seats.1 in
    let most = mul-le c.into.inside.inner.me.0.plan.removes c.into.inside.inner.me.0.plan.seats 1048576 64 removes seats in omega arith

pub unreachable-requires : goal.unreachable-requires
unreachable-requires c =
    let m = merged c.into.inside c.from.inside c.into.invariant c.from.invariant c.into.view_is c.from.view_is c.requires.first c.requires.quiet
    c.settle.ensures.same.2 c.join_seat.ensures.2 c.settle.ensures.sound in
    let room = free_room m in let full = c.in_default.ensures.full in omega (arith, c.into.inside.free.ok.0, c.from.inside.free.ok.0)

pub unreachable-requires-in_default-append : goal.unreachable-requires-in_default-append
unreachable-requires-in_default-append c =
    let m = merged c.into.inside c.from.inside c.into.invariant c.from.invariant c.into.view_is c.from.view_is c.requires.first c.requires.quiet
    c.settle.ensures.same.2 c.join_seat.ensures.2 c.settle.ensures.sound in
    let room = retired_room m in let full = c.in_default-append.ensures.full in omega (arith, c.into.inside.retired.ok.0, c.from.inside.retired.ok.0)

pub invariant_of-into : goal.invariant_of-into
invariant_of-into c =
    let m = merged c.into.inside c.from.inside c.into.invariant c.from.invariant c.into.view_is c.from.view_is c.requires.first c.requires.quiet
    c.settle.ensures.same.2 c.join_seat.ensures.2 c.settle.ensures.sound in
    whole_joined m c.append.new.self c.append-2.new.self c.in-Ok.ensures.items c.in-Ok-append.ensures.items c.append.ensures.capacity c.append-2.ensures.capacity

-- the first seat then, as contracts see it
abbrev joined_data : SeatData → SeatData → SeatData
joined_data old from = record { object = old.object; view = joined_view old.view from.view; free = old.free ++ from.free; holding = old.holding; noted = old.noted; first = old.first; fresh = false }

pub returns : goal.returns
returns c =
    let m = merged c.into.inside c.from.inside c.into.invariant c.from.invariant c.into.view_is c.from.view_is c.requires.first c.requires.quiet
    c.settle.ensures.same.2 c.join_seat.ensures.2 c.settle.ensures.sound in
    let same = c.settle.ensures.same.2 ∙ c.join_seat.ensures.2 in
    let old = c.args.into.now in
    let from = c.args.from in
    let is_joined = (λ i. record {
      object = (c.settle.ensures.same.0 ∙ c.join_seat.ensures.0) i;
      view = (same i).0;
      free = c.in-Ok.ensures.items i;
      holding = c.into.inside.holding.items;
      noted = c.into.inside.noted.items;
      first = c.into.inside.first;
      fresh = false;
    }) ∙ (λ i. joined_data (c.into.view_is i) (c.from.view_is i)) in
    let record_stays : holds_record (joined_view old.view from.view) ≡ holds_record old.view =
    (λ i. holds_record (joined_view ((sym c.into.view_is) i).view ((sym c.from.view_is) i).view)) ∙ (record_same m ∙ (λ i. holds_record (c.into.view_is i).view)) in record {
      joined = record {
        seat = is_joined;
        seen = subst (λ (z : List Entry × List Entry). GoesOn z.0 z.1) (λ i. ((c.into.view_is i).view.seen, (sym same i).0.seen)) (seen_parts m).0;
        seen_from = subst (λ (z : List Entry × List Entry). GoesOn z.0 z.1) (λ i. ((c.from.view_is i).view.seen, (sym same i).0.seen)) (seen_parts m).1;
        quiet = subst (λ (z : SeatData). is_quiet z ≡ true) (sym is_joined)
            (ap (λ b. not b && (is_empty old.holding && all_zero (claim_words old.view))) record_stays ∙ c.requires.quiet.0);
      };
      law = let s = c.into.inside in let o = c.from.inside in lawful (record s {
        inner = c.settle.new.inner;
        fresh = false;
        numbers = s.numbers + o.numbers;
        changes = s.changes + o.changes;
        removes = s.removes + o.removes;
        free = c.append.new.self;
        retired = c.append-2.new.self;
      }) (invariant_of-into c);
    }
