use Rattle.std.proofs.Common.{◌∙◌, ℕ, ◌-◌, set, ap}
use Rattle.board_example.proofs.Checksums.{whole_after}
use Rattle.board_example.proofs.reading.reading.Goals as goal
use Rattle.board_example.specs.Readings.{is_whole}
use Rattle.seat_history.specs.declared.words.TheConstants.{WIDTH}

pub returns : goal.returns
returns c = ap (λ (sum : ℕ). is_whole (set c.loop-j.words (WIDTH - 1) sum)) c.checksum.ensures ∙ whole_after c.loop-j.words c.loop-j.invariant
