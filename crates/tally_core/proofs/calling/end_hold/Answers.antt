use Rattle.tally_core.proofs.Coming.{ended_held, released}
use Rattle.tally_core.proofs.calling.end_hold.Goals as goal
use Rattle.std.proofs.Common.{refl, sym, ◌∙◌}

pub returns-then-holds_record-clause-run : goal.returns-then-holds_record-clause-run
returns-then-holds_record-clause-run c lines x come =
    ended_held come (sym c.holds_record.ensures ∙ c.if-holds_record.true) (released c.args.caller.now.seat c.release_hold.new.seat c.release_hold.ensures.released c.release_hold.ensures.ready) refl
