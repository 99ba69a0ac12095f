use Rattle.std.proofs.Common.{◌≡◌, ◌++◌, length}
use Rattle.speed_runs.specs.Streams.{numbers_in}
use Rattle.speed_runs.proofs.stream.numbers_of.Given as goal

abbrev pub invariant-loop-rest : goal.invariant-loop-rest
invariant-loop-rest l = numbers_in l.bytes ≡ l.numbers.items ++ numbers_in l.rest

abbrev pub decreases-loop-rest : goal.decreases-loop-rest
decreases-loop-rest l = length l.rest
