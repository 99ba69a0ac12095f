use Rattle.tally_core.proofs.Reclaimed.{reclaimed, reclaimed_stays}
use Rattle.tally_core.proofs.ahead.reclaim_many.Goals as goal

pub reclaim-requires : goal.reclaim-requires
reclaim-requires c = record { ready = c.requires.adding.1.ready }

pub returns : goal.returns
returns c = record {
  adding = λ added was. reclaimed added c.reclaim.ensures.ready c.reclaim.ensures.scanned was;
  stays = reclaimed_stays c.reclaim.ensures.scanned;
}
