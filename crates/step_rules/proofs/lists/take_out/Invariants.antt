use Rattle.std.proofs.Common.{◌≡◌, ◌≤◌, true, length, take}
use Rattle.step_rules.specs.World.{has}
use Rattle.step_rules.proofs.lists.take_out.Given as goal

-- the node stands in front of the end
abbrev pub invariant-loop-end : goal.invariant-loop-end
invariant-loop-end l = record { within : l.end ≤ length l.list.items; there : has (take l.end l.list.items) l.node ≡ true }

abbrev pub decreases-loop-end : goal.decreases-loop-end
decreases-loop-end l = l.end
