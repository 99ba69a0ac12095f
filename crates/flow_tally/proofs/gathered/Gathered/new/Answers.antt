use Rattle.flow_tally.proofs.Gathering.{none_gathered}
use Rattle.flow_tally.proofs.gathered.Gathered.new.Goals as goal

pub returns : goal.returns
returns c = none_gathered _ c.new.ensures.items c.new-2.ensures.items
