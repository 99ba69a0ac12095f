-- Tables into which pairs are only put, and how many keys come to be there.
use Rattle.std.specs.Prelude.{◌≡◌, ℕ, ◌+◌, ◌*◌, ◌≤◌, false, length, ⊤}
use Rattle.big_atomic.specs.Registers.{end_of}
use Rattle.seat_history.specs.Pairs.{ArePairsOf, Pairs}
use Rattle.seat_history.specs.declared.call.Call.{Call}
use Rattle.seat_history.specs.declared.call.Call.TheVariants.{Find, Insert, Replace}
use Rattle.step_rules.specs.Closing.{ClosedData}
use Rattle.step_rules.specs.Lawful.{is_full}
use Rattle.step_rules.specs.declared.view.Stand.{Stand}

-- the call looks for a key, or puts a pair or a value
abbrev pub OnlyPuts : Call → Type 0
OnlyPuts (Find key) = ⊤
OnlyPuts (Insert key val) = ⊤
OnlyPuts (Replace key old new) = ⊤
OnlyPuts _ = ⊥

-- the closed table has no more keys than these, and a share has two nodes for each of them, one for each claim word, and one
pub record HasFewKeys (most : ℕ) (closed : ClosedData) : Type 0 where
  pub share : 2 * most + 4 * closed.plan.seats + 1 ≤ closed.plan.share
  pub pairs : Pairs
  pub are : ArePairsOf (end_of closed).values pairs
  pub few : length pairs ≤ most

-- the stand isn't Full
abbrev pub NotFull : Stand → Type 0
NotFull s = is_full s.reply ≡ false
