use Rattle.std.proofs.Common.{◌-◌, length}
use Rattle.step_rules.specs.Views.{claimed_pages}
use Rattle.chain_links.proofs.Ways.{OnTheWay}
use Rattle.chain_links.proofs.walks.walk.Given as goal

-- the words are those of the chain's node at this place, and no node before it has the key
abbrev pub invariant-links : goal.invariant-links
invariant-links l = OnTheWay l.cell l.first l.key l.at l.words l.fn.seat l.seat

abbrev pub decreases-links : goal.decreases-links
decreases-links l = length (claimed_pages l.fn.seat.view) - l.at
