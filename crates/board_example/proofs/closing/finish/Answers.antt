use Rattle.board_example.proofs.Closings.{ended}
use Rattle.board_example.proofs.closing.finish.Goals as goal

pub returns : goal.returns
returns c = ended c.args.shared.plan c.args.member.seat c.close-closed.result c.args.member.yes c.args.member.torn c.close-closed.ensures.law c.close-closed.ensures.closed
    c.requires.done.ours.plan c.requires.done.kept
