use Rattle.std.proofs.Common.{take}
use Rattle.std.specs.BTreeMap.{get}
use Rattle.netflow_five.specs.Engines.{engine_cmp}
use Rattle.netflow_five.specs.Tallies.{HasTallied}
use Rattle.netflow_five.proofs.lost_flows.losses.Given as goal

abbrev pub invariant-loop-mark : goal.invariant-loop-mark
invariant-loop-mark l = HasTallied (take l.mark-index l.marks) (get engine_cmp l.tallies)
