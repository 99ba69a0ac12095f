use Rattle.std.proofs.Common.{ap, refl, rules, subst}
use Rattle.big_atomic.proofs.Beginning.{begins, store_again, store_starts, turn_smaller}
use Rattle.big_atomic.proofs.Deciding.{past_ours, stored}
use Rattle.big_atomic.specs.Calls.{IsStored}
use Rattle.big_atomic.specs.declared.answers.Stored.TheVariants.{Done as StoreDone, Full as StoreFull}
use Rattle.step_rules.specs.SeatData.{SeatData}
use Rattle.step_rules.specs.declared.view.View.{View}
use Rattle.big_atomic.proofs.stores.store.Goals as goal

pub turns-init : goal.turns-init
turns-init c = store_starts (begins c.requires.ready c.requires.there c.requires.left)
    (search rules) c.begin_turn-turn.ensures.started c.begin_turn-turn.ensures.kept c.begin_turn-turn.ensures.law

pub returns-in-Done : goal.returns-in-Done
returns-in-Done c =
    let i = c.turns.invariant in
    let s = stored StoreDone (c.in-Done.ensures.given i.0 i.3) in
    record { ready = s.1; stored = subst (λ (z : SeatData). IsStored c.args.reg c.args.new StoreDone z c.give.new.seat) i.1 s.0 }

pub returns-in-Full : goal.returns-in-Full
returns-in-Full c =
    let i = c.turns.invariant in
    let s = stored (StoreFull 1 0) (c.in-Full.ensures.given i.0 i.3) in
    record { ready = s.1; stored = subst (λ (z : SeatData). IsStored c.args.reg c.args.new (StoreFull 1 0) z c.give.new.seat) i.1 s.0 }

-- another turn
pub begin_turn-turn-requires-in-Moved-clause-ours : goal.begin_turn-turn-requires-in-Moved-clause-ours
begin_turn-turn-requires-in-Moved-clause-ours c = let i = c.turns.invariant in past_ours (c.in-Moved.ensures.given i.0 i.3).at.past

pub turns-preserved : goal.turns-preserved
turns-preserved c =
    let i = c.turns.invariant in (
      i.0,
      i.1,
      i.2,
      store_again (c.in-Moved.ensures.given i.0 i.3) i.2 c.begin_turn-turn-in-Moved.ensures.started c.begin_turn-turn-in-Moved.ensures.law
          c.begin_turn-turn-in-Moved.ensures.kept,
    )

pub turns-smaller : goal.turns-smaller
turns-smaller c =
    let i = c.turns.invariant in
    turn_smaller (c.in-Moved.ensures.given i.0 i.3) i.2 c.begin_turn-turn-in-Moved.ensures.started c.begin_turn-turn-in-Moved.ensures.law c.turns.seat.view
    (ap (λ (z : View). z.plan) i.3.at.past.calling.goes.only) refl
