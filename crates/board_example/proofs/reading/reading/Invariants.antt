use Rattle.std.proofs.Common.{◌≡◌, length}
use Rattle.seat_history.specs.declared.words.TheConstants.{WIDTH}
use Rattle.board_example.proofs.reading.reading.Given as goal

abbrev pub invariant-loop-j : goal.invariant-loop-j
invariant-loop-j l = length l.words ≡ WIDTH
