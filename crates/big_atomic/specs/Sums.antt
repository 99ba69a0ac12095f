-- What stands add up to, in whatever order they come: counts, sums, least and greatest ones.
use Rattle.std.specs.Prelude.{◌≡◌, ◌≢◌, ℕ, List, [], ◌∷◌}
use Rattle.seat_history.specs.declared.call.Call.{Call}
use Rattle.seat_history.specs.declared.call.Call.TheVariants.{Store, Swap}
use Rattle.seat_history.specs.declared.reply.Reply.{Reply}
use Rattle.seat_history.specs.declared.reply.Reply.TheVariants.{Yes}
use Rattle.step_rules.specs.declared.view.Stand.{Stand}

-- amounts that are added up in any order: a commutative monoid
pub record Adding (V : Type 0) : Type 0 where
  pub none : V
  pub add : V → V → V
  pub none_left : (a : V) → add none a ≡ a
  pub swapped : (a b : V) → add a b ≡ add b a
  pub grouped : (a b c : V) → add (add a b) c ≡ add a (add b c)

-- each stand adds an amount, and these come to the sum
abbrev pub AddUpTo : {V : Type 0} → Adding V → (V → Stand → Type 0) → List Stand → V → Type 0
AddUpTo {V} A Adds [] sum = sum ≡ A.none
AddUpTo {V} A Adds (s ∷ later) sum = (x : V) × (rest : V) × Adds x s × AddUpTo A Adds later rest × (sum ≡ A.add x rest)

-- the words' number shows the amount: as it is, or modulo 2^64
abbrev pub Shows : (List ℕ → ℕ) → (ℕ → ℕ) → List ℕ → ℕ → Type 0
Shows number shown words a = number words ≡ shown a

-- the call with this reply adds the amount to the register: a swap that is answered Yes puts a record that says so much more than the old one.
-- `says words a`: these words say the amount a
abbrev pub AddsToRegister : {V : Type 0} → Adding V → (List ℕ → V → Type 0) → ℕ → V → Call → Reply → Type 0
AddsToRegister A says reg x (Store r new) reply = (r ≢ reg) × (x ≡ A.none)
AddsToRegister {V} A says reg x (Swap r old new) Yes = (r ≡ reg → (a : V) → says old a → says new (A.add a x)) × (r ≢ reg → x ≡ A.none)
AddsToRegister A says reg x _ _ = x ≡ A.none
