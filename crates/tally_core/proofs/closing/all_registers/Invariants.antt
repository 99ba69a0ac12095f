use Rattle.std.proofs.Common.{◌≡◌, length, map}
use Rattle.std.specs.List.{range_with_len}
use Rattle.seat_history.specs.History.{state_at}
use Rattle.tally_core.proofs.closing.all_registers.Given as goal

abbrev pub invariant-loop-reg : goal.invariant-loop-reg
invariant-loop-reg l = l.registers.items ≡ map (state_at l.closed.history (length l.closed.history)).registers (range_with_len 0 l.reg)
