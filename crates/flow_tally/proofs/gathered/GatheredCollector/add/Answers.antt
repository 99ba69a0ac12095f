use Rattle.std.proofs.Common.{[], ◌∷◌}
use Rattle.flow_tally.proofs.Gathering.{gathered_more}
use Rattle.flow_tally.proofs.gathered.GatheredCollector.add.Goals as goal

pub returns-clause-holds : goal.returns-clause-holds
returns-clause-holds c = λ before had.
    gathered_more before (c.args.datagram.now.bytes.now ∷ []) c.args.self.now c.add_datagram.new.self had c.in_ok-add_datagram.ensures.adds
