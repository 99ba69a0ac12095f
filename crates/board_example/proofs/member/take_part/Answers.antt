use Rattle.big_atomic.proofs.Sharing.{ready_quiet}
use Rattle.board_example.proofs.member.take_part.Goals as goal

pub returns-clause-done : goal.returns-clause-done
returns-clause-done c = let w = c.loop-round.invariant.0 in record {
  ours = w.ready.ours;
  quiet = ready_quiet c.args.shared.now c.loop-round.member.seat w.ready w.none_held;
  kept = w.kept;
}
