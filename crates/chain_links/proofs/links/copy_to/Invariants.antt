use Rattle.std.proofs.Common.{◌-◌, ◌≤◌}
use Rattle.chain_links.specs.Following.{IsCopying}
use Rattle.chain_links.proofs.links.copy_to.Given as goal

-- the records before the place `done` are copied
abbrev pub invariant-links : goal.invariant-links
invariant-links l = record { within : l.done ≤ l.at; copying : IsCopying l.cell l.done l.head l.last l.words l.fn.seat l.seat }

abbrev pub decreases-links : goal.decreases-links
decreases-links l = l.at - l.done
