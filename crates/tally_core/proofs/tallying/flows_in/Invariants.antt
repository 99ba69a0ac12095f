use Rattle.std.proofs.Common.{◌≡◌, map, take}
use Rattle.tally_core.specs.Adding.{flow_of}
use Rattle.tally_core.proofs.tallying.flows_in.Given as goal

abbrev pub invariant-loop-i : goal.invariant-loop-i
invariant-loop-i l = l.items.items ≡ map flow_of (take l.i l.pairs)
