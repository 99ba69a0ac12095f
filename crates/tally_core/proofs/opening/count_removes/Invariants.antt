use Rattle.std.proofs.Common.{◌≡◌, ◌+◌, drop}
use Rattle.tally_core.specs.Workers.{removes_in}
use Rattle.tally_core.proofs.opening.count_removes.Given as goal

abbrev pub invariant-loop-line : goal.invariant-loop-line
invariant-loop-line l = l.count + removes_in (drop l.line-index l.lines) ≡ removes_in l.lines
