use Rattle.std.proofs.Common.{◌+◌, arith, ap, drop, slice_index, subst, sym, List, ℕ}
use Rattle.std.proofs.Math.ListN.{drop_of_length-le}
use Rattle.seat_history.specs.declared.entry.Entry.{Entry}
use Rattle.step_rules.specs.Views.{number}
use Rattle.tally_core.proofs.Coming.{come_to}
use Rattle.tally_core.proofs.SeatStands.{stays_on}
use Rattle.tally_core.specs.Workers.{HasCome, HasRun}
use Rattle.tally_core.proofs.calling.call_lines.Goals as goal

pub call_line-requires-clause-come : goal.call_line-requires-clause-come
call_line-requires-clause-come g c _ _ = (
  c.args.lines.now,
  number c.args.caller.seat.view,
  drop (c.loop-line.line-index + 1) c.args.lines.now,
  come_to c.loop-line.line-index _ c.loop-line-test.true c.loop-line.invariant.come,
  c.requires.few,
)

pub loop-line-preserved : goal.loop-line-preserved
loop-line-preserved g c = record {
  come = c.call_line.ensures.come c.args.lines.now (number c.args.caller.seat.view) (drop (c.loop-line.line-index + 1) c.args.lines.now)
      (come_to c.loop-line.line-index _ c.loop-line-test.true c.loop-line.invariant.come);
  stays = stays_on c.loop-line.invariant.stays c.call_line.ensures.stays;
}

pub returns-clause-run : goal.returns-clause-run
returns-clause-run g c =
    let come = subst (λ (l : List Entry). HasCome c.args.shared.now c.args.lines.now (number c.args.caller.seat.view) l c.loop-line.caller)
    (drop_of_length-le c.args.lines.now (omega (arith, c.loop-line-test.false))) c.loop-line.invariant.come in
    let run = c.end_hold.ensures.run c.args.lines.now (number c.args.caller.seat.view) come in
    subst (λ x. HasRun c.args.shared.now c.args.lines.now x c.end_hold.new.caller) (ap (λ (l : List ℕ). slice_index l 0) (sym run.numbers)) run
