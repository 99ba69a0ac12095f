use Rattle.tally_core.proofs.Begun.{opened}
use Rattle.tally_core.proofs.opening.open.Goals as goal

pub returns : goal.returns
returns c = record {
  opened = opened c.requires.script c.in_ok-shared.ensures.opened c.in_ok-callers.ensures.seats c.in_ok-callers.ensures.room;
}
