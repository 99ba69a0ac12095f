use Rattle.std.proofs.Common.{◌≡◌, ◌≤◌, ◌<◌, ◌+◌, ℕ, length, slice_index}
use Rattle.std.specs.Mem.Slots.{slots_items}
use Rattle.seat_history.specs.declared.words.TheConstants.{VALUE_WIDTH}
use Rattle.step_rules.proofs.last_chains.pair_at.Given as goal

abbrev pub invariant-loop-j : goal.invariant-loop-j
invariant-loop-j l = record {
  below : l.j ≤ VALUE_WIDTH;
  wide : length l.val ≡ VALUE_WIDTH;
  read : (k : ℕ) → k < l.j → slice_index l.val k ≡ slice_index (slots_items l.words.words) (l.first + 2 + k);
}
