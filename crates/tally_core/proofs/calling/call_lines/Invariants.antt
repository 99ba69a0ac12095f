use Rattle.std.proofs.Common.{drop}
use Rattle.big_atomic.specs.Seats.{Stays}
use Rattle.step_rules.specs.Views.{number}
use Rattle.tally_core.specs.Workers.{HasCome}
use Rattle.tally_core.proofs.calling.call_lines.Given as goal

abbrev pub invariant-loop-line : goal.invariant-loop-line
invariant-loop-line g l = record {
  come : HasCome l.shared l.lines (number l.fn.caller.seat.view) (drop l.line-index l.lines) l.caller;
  stays : Stays l.fn.caller.seat l.caller.seat;
}
