use Rattle.register_speed.specs.Counting.{IsTurn, blank, loaded_after}
use Rattle.speed_runs.proofs.Carrying.{carry_on, carry_unmade}
use Rattle.register_speed.proofs.caller.make_next.Goals as goal

pub returns-then-make_call-clause-come : goal.returns-then-make_call-clause-come
returns-then-make_call-clause-come c = carry_on loaded_after blank (IsTurn c.args.asked.now) c.requires.come c.if-make_call.ensures.adds

pub returns-else-make_call-clause-come : goal.returns-else-make_call-clause-come
returns-else-make_call-clause-come c = carry_unmade loaded_after blank (IsTurn c.args.asked.now) c.requires.come c.if-make_call.ensures.adds
