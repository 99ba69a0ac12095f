use Rattle.std.proofs.Common.{◌≡◌, ◌++◌, take}
use Rattle.tally_core.specs.Drawing.{drawn_by}
use Rattle.tally_core.proofs.sharing.push_draws.Given as goal

abbrev pub invariant-loop-batch : goal.invariant-loop-batch
invariant-loop-batch l = l.draws.items ≡ l.fn.draws.items ++ drawn_by l.worker (take l.batch-index l.drawn)
