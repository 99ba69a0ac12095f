use Rattle.speed_runs.proofs.Coming.{begun}
use Rattle.speed_runs.proofs.runs.fill.Goals as goal

pub fill-requires-clause-come : goal.fill-requires-clause-come
fill-requires-clause-come g c = begun c.requires.unused
