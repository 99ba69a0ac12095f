use Rattle.std.proofs.Common.{◌≡◌, ◌<◌, ℕ, false}
use Rattle.tally_core.specs.Tallying.{full_at}
use Rattle.tally_core.proofs.sharing.is_any_full.Given as goal

abbrev pub invariant-loop-i : goal.invariant-loop-i
invariant-loop-i l = (w : ℕ) → w < l.i → full_at l.drawers w ≡ false
