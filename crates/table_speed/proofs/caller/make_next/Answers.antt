use Rattle.std.proofs.Common.{None}
use Rattle.speed_runs.proofs.Carrying.{carry_on, carry_unmade}
use Rattle.table_speed.specs.Counting.{IsTurn, found_after}
use Rattle.table_speed.proofs.caller.make_next.Goals as goal

pub returns-then-make_call-clause-come : goal.returns-then-make_call-clause-come
returns-then-make_call-clause-come c = carry_on found_after None (IsTurn c.args.asked.now) c.requires.come c.if-make_call.ensures.adds

pub returns-else-make_call-clause-come : goal.returns-else-make_call-clause-come
returns-else-make_call-clause-come c = carry_unmade found_after None (IsTurn c.args.asked.now) c.requires.come c.if-make_call.ensures.adds
