use Rattle.std.proofs.Common.{◌≡◌, ◌++◌, drop, length}
use Rattle.seat_history.specs.declared.reply.Reply.TheVariants.{Done}
use Rattle.tally_core.proofs.Merged.{Serves, left_of, merged}
use Rattle.tally_core.specs.Workers.{replies_at}
use Rattle.tally_core.proofs.merging.merge_replies.Given as goal

abbrev pub invariant-loop-line : goal.invariant-loop-line
invariant-loop-line l = record {
  long : length l.next.items ≡ length l.callers;
  serves : Serves (left_of l.callers l.next.items) (drop l.line-index l.lines);
  told : l.replies.items ++ merged (left_of l.callers l.next.items) (drop l.line-index l.lines) Done ≡ merged (replies_at l.callers) l.lines Done;
}
