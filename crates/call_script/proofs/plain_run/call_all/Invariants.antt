use Rattle.std.proofs.Common.{◌≡◌, ◌++◌, drop}
use Rattle.seat_history.specs.History.{object_from, replies_from}
use Rattle.seat_history.specs.Plain.{object_of, register_count}
use Rattle.call_script.specs.Script.{MayRun}
use Rattle.call_script.proofs.plain_run.call_all.Given as goal

-- the replies so far and those to what is left are those to all
abbrev pub invariant-loop-entry : goal.invariant-loop-entry
invariant-loop-entry l = record {
  may : MayRun l.callers (object_of l.plain) (drop l.entry-index l.calls);
  told : l.replies.items ++ replies_from (object_of l.plain) (drop l.entry-index l.calls) ≡ replies_from (object_of l.fn.plain) l.calls;
  left : object_from (object_of l.plain) (drop l.entry-index l.calls) ≡ object_from (object_of l.fn.plain) l.calls;
  registers : register_count l.plain ≡ 16;
}
