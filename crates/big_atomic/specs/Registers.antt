-- What a closed object's registers have, by what its calls gave them.
use Rattle.std.specs.Prelude.{◌≡◌, ◌≢◌, ℕ, ◌+◌, ◌%◌, ◌^◌, ◌==◌, Bool, true, false, not, List, count_by, length, ⊤}
use Rattle.big_atomic.specs.Stands.{by_call}
use Rattle.seat_history.specs.Contents.{Contents, zeros}
use Rattle.seat_history.specs.History.{state_at}
use Rattle.seat_history.specs.declared.call.Call.{Call}
use Rattle.seat_history.specs.declared.call.Call.TheVariants.{Load, Store, Swap, Hold, Look}
use Rattle.seat_history.specs.declared.reply.Reply.{Reply}
use Rattle.seat_history.specs.declared.reply.Reply.TheVariants.{Words, Yes}
use Rattle.step_rules.specs.Closing.{ClosedData}

-- the registers at the end
abbrev pub end_of : ClosedData → Contents
end_of closed = state_at closed.history (length closed.history)

-- the call gives a register a record that fits it, and holds none but what may be held
abbrev pub GivesFitting : (ℕ → List ℕ → Bool) → (List ℕ → Bool) → Call → Type 0
GivesFitting fits may_hold (Store reg new) = fits reg new ≡ true
GivesFitting fits may_hold (Swap reg old new) = fits reg old ≡ true → fits reg new ≡ true
GivesFitting fits may_hold (Hold reg) = (words : List ℕ) → fits reg words ≡ true → may_hold words ≡ true
GivesFitting fits may_hold _ = ⊤

-- words were read that don't fit their register, or that may not be held
abbrev pub tells_unfit : (ℕ → List ℕ → Bool) → (List ℕ → Bool) → Call → Reply → Bool
tells_unfit fits may_hold (Load reg) (Words words) = not (fits reg words)
tells_unfit fits may_hold Look (Words words) = not (may_hold words)
tells_unfit fits may_hold _ _ = false

-- a new object's registers fit
abbrev pub FitsBlank : (ℕ → List ℕ → Bool) → Type 0
FitsBlank fits = (r : ℕ) → fits r zeros ≡ true

-- each register has a record that fits it, and none was read that doesn't
pub record HasFitting (fits : ℕ → List ℕ → Bool) (may_hold : List ℕ → Bool) (closed : ClosedData) : Type 0 where
  pub registers : (r : ℕ) → fits r ((end_of closed).registers r) ≡ true
  pub none_unfit : count_by (by_call (tells_unfit fits may_hold)) closed.stands ≡ 0

-- the call leaves the register, or swaps a record for one whose number is one more
abbrev pub CountsUp : ℕ → (List ℕ → ℕ) → Call → Type 0
CountsUp reg number (Store r new) = r ≢ reg
CountsUp reg number (Swap r old new) = r ≡ reg → number new ≡ (number old + 1) % 2 ^ 64
CountsUp reg number _ = ⊤

-- the register was counted up
abbrev pub tells_counted : ℕ → Call → Reply → Bool
tells_counted reg (Swap r old new) Yes = r == reg
tells_counted reg _ _ = false

-- the register's number counts the swaps that were answered Yes, modulo 2^64
abbrev pub HasCounted : ℕ → (List ℕ → ℕ) → ClosedData → Type 0
HasCounted reg number closed = number ((end_of closed).registers reg) % 2 ^ 64 ≡ (number zeros + count_by (by_call (tells_counted reg)) closed.stands) % 2 ^ 64
