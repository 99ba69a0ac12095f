use Rattle.call_script.specs.Text.{reply_line}
use Rattle.std.specs.List.{flat_map}
use Rattle.std.proofs.Common.{◌≡◌, ◌++◌, take}
use Rattle.call_script.proofs.writing.add_replies.Given as goal

abbrev pub invariant-loop-reply : goal.invariant-loop-reply
invariant-loop-reply l = l.text ≡ l.fn.text ++ flat_map reply_line (take l.reply-index l.replies)
