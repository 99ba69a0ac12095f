use Rattle.std.proofs.Common.{◌≡◌, take}
use Rattle.tally_core.specs.Drawing.{draws_told}
use Rattle.tally_core.proofs.sharing.draws_of.Given as goal

abbrev pub invariant-loop-drawer : goal.invariant-loop-drawer
invariant-loop-drawer l = l.draws.items ≡ draws_told (take l.drawer-index l.drawers)
