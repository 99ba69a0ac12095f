use Rattle.std.proofs.Common.{ℕ, false, ◌+◌, ◌-◌, ◌*◌, ◌/◌, ◌<◌, ◌≤◌, ◌∷◌, ◌++◌, length, sym, ap, ◌∙◌, subst, arith}
use Rattle.seat_history.specs.declared.call.Call.{Call}
use Rattle.step_rules.proofs.Rely.Owed.{exchange_call, meets, plan_of}
use Rattle.step_rules.proofs.Ties.Tied.{exchange_there, lawful, whole_looked}
use Rattle.step_rules.proofs.Ties.Winning.{room_won, whole_won}
use Rattle.step_rules.specs.Kinds.Backup.{MayExchange, Wins}
use Rattle.step_rules.specs.Layout.{backup_at, cells, nodes}
use Rattle.step_rules.specs.SeatData.{SeatData}
use Rattle.step_rules.specs.Steps.{DropsNoted, HoldsFront}
use Rattle.step_rules.specs.declared.layout.TheConstants.{MOST_NODES}
use Rattle.step_rules.specs.declared.plan.Plan.{Plan}
use Rattle.step_rules.proofs.steps.backup.exchange_told.Goals as goal

pub backup_place-place-requires : goal.backup_place-place-requires
backup_place-place-requires g c =
    let v = c.seat.inside.inner.me.0 in
    let may = subst (λ (d : SeatData). MayExchange c.args.cell c.args.seen c.args.node c.args.call d.view) (sym c.seat.view_is) c.requires.may in
    subst (λ (p : Plan). c.args.cell < cells p) (sym (plan_of c.seat.view_is c.requires.ours)) (exchange_there c.args.cell c.args.seen c.args.node c.args.call v c.seat.invariant.0.sound may).0

pub compare_exchange-found-requires : goal.compare_exchange-found-requires
compare_exchange-found-requires g c =
    let m = meets c.seat.view_is c.shared.view_is c.requires.ours c.shared.invariant.2 c.shared.invariant.3 in
    let may = subst (λ (d : SeatData). MayExchange c.args.cell c.args.seen c.args.node c.args.call d.view) (sym c.seat.view_is) c.requires.may in (
      m.table,
      m.within _ c.backup_place-place.ensures.1,
      exchange_call _ _ _ _ _ c.seat.invariant.0.sound.some_number m.key_is c.args.cell c.args.seen c.args.node _ g.T.Telling.call
          (m.at (λ p. backup_at p c.args.cell) _ c.backup_place-place.ensures.0) (ap (λ n. 2 * n + 1) c.from.ensures)
          (subst (λ (z : Call). MayExchange c.args.cell c.args.seen c.args.node z c.seat.inside.inner.me.0) c.requires.told may),
    )

pub invariant_of-seat : goal.invariant_of-seat
invariant_of-seat g c =
    let told = c.compare_exchange-found.ensures.2 in
    let at = (meets c.seat.view_is c.shared.view_is c.requires.ours c.shared.invariant.2 c.shared.invariant.3).at (λ p. backup_at p c.args.cell) _ c.backup_place-place.ensures.0 in
    whole_looked c.seat.inside c.seat.invariant c.compare_exchange-found.new.seat told.0 told.1 _ c.args.cell _
    ((told.2 c.args.cell c.args.node at (ap (λ m. 2 * m + 1) c.from.ensures)).1 c.if-found-seen.true)

-- the number of the node that falls out
pub overflow_cast-seen : goal.overflow_cast-seen
overflow_cast-seen g c =
    let v = c.seat.inside.inner.me.0 in
    let may = subst (λ (d : SeatData). MayExchange c.args.cell c.args.seen c.args.node c.args.call d.view) (sym c.seat.view_is) c.requires.may in
    let there = (exchange_there c.args.cell c.args.seen c.args.node c.args.call v c.seat.invariant.0.sound may).1 in
    let m = meets c.seat.view_is c.shared.view_is c.requires.ours c.shared.invariant.2 c.shared.invariant.3 in
    let most = subst (λ (p : Plan). nodes p ≤ MOST_NODES) (c.shared.invariant.2 ∙ sym m.key_is) c.shared.invariant.1 in
    omega arith

-- own nodes become retired ones
pub retire-requires : goal.retire-requires
retire-requires g c =
    let told = c.compare_exchange-found.ensures.2 in
    let at = (meets c.seat.view_is c.shared.view_is c.requires.ours c.shared.invariant.2 c.shared.invariant.3).at (λ p. backup_at p c.args.cell) _ c.backup_place-place.ensures.0 in
    let may = subst (λ (d : SeatData). MayExchange c.args.cell c.args.seen c.args.node c.args.call d.view) (sym c.seat.view_is) c.requires.may in
    let front = subst (λ (d : SeatData). HoldsFront c.args.node c.args.call d) (sym c.seat.view_is) c.requires.front in
    let drops = subst (λ (d : SeatData). DropsNoted c.args.call d) (sym c.seat.view_is) c.requires.noted in
    let wins = (told.2 c.args.cell c.args.node at (ap (λ m. 2 * m + 1) c.from.ensures)).0 c.if-found-seen.false in
    let room = room_won c.seat.inside c.seat.invariant c.compare_exchange-found.new.seat told.0 told.1 c.args.cell c.args.seen c.args.node c.args.call may front drops
    (subst (λ (z : Call). Wins c.args.cell c.args.seen c.args.node z c.seat.inside.inner.me.0 c.compare_exchange-found.new.seat.me.0) (sym c.requires.told) wins) in
    record {
      room = omega (arith, ap (length {A = ℕ}) c.deref.ensures.value);
    }

pub invariant_of-seat-2 : goal.invariant_of-seat-2
invariant_of-seat-2 g c =
    let told = c.compare_exchange-found.ensures.2 in
    let at = (meets c.seat.view_is c.shared.view_is c.requires.ours c.shared.invariant.2 c.shared.invariant.3).at (λ p. backup_at p c.args.cell) _ c.backup_place-place.ensures.0 in
    let may = subst (λ (d : SeatData). MayExchange c.args.cell c.args.seen c.args.node c.args.call d.view) (sym c.seat.view_is) c.requires.may in
    let front = subst (λ (d : SeatData). HoldsFront c.args.node c.args.call d) (sym c.seat.view_is) c.requires.front in
    let drops = subst (λ (d : SeatData). DropsNoted c.args.call d) (sym c.seat.view_is) c.requires.noted in
    let wins = (told.2 c.args.cell c.args.node at (ap (λ m. 2 * m + 1) c.from.ensures)).0 c.if-found-seen.false in
    whole_won c.seat.inside c.seat.invariant c.compare_exchange-found.new.seat told.0 told.1 c.args.cell c.args.seen c.args.node c.args.call may front drops
    (subst (λ (z : Call). Wins c.args.cell c.args.seen c.args.node z c.seat.inside.inner.me.0 c.compare_exchange-found.new.seat.me.0) (sym c.requires.told) wins)
    _ c.clear.new.self c.retire.new.retired c.removes_of.ensures c.clear.ensures.items
    (c.retire.ensures.items ∙ ap (λ l. c.seat.inside.retired.items ++ c.args.seen / 2 ∷ l) c.deref.ensures.value) c.clear.ensures.capacity c.retire.ensures.capacity

pub returns-then-found-seen-clause-law : goal.returns-then-found-seen-clause-law
returns-then-found-seen-clause-law g c = lawful (record c.seat.inside { inner = c.compare_exchange-found.new.seat; fresh = false }) (invariant_of-seat g c)

pub returns-clause-law : goal.returns-clause-law
returns-clause-law g c = let s = c.seat.inside in lawful (record s {
  inner = c.compare_exchange-found.new.seat;
  fresh = false;
  changes = s.changes - 1;
  removes = s.removes - c.removes_of.result;
  holding = c.clear.new.self;
  retired = c.retire.new.retired;
}) (invariant_of-seat-2 g c)
