use Rattle.std.proofs.Common.{◌≡◌, ◌≤◌, ◌<◌, ℕ, length, slice_index}
use Rattle.seat_history.specs.History.{state_at}
use Rattle.seat_history.specs.declared.words.TheConstants.{WIDTH}
use Rattle.step_rules.proofs.closed.Closed.register.Given as goal

abbrev pub invariant-loop-j : goal.invariant-loop-j
invariant-loop-j l = record {
  below : l.j ≤ WIDTH;
  wide : length l.rec ≡ WIDTH;
  read : (k : ℕ) → k < l.j → slice_index l.rec k ≡ slice_index ((state_at l.self.history (length l.self.history)).registers l.reg) k;
}
