-- Keys whose values are added to: which calls keep that, and what a closed table has then.
use Rattle.std.specs.Prelude.{◌≡◌, ◌≢◌, ℕ, ◌+◌, ◌%◌, ◌^◌, ◌<◌, ◌==◌, All, Bool, false, List, Option, Some, None, cond, count_by, ⊤}
use Rattle.big_atomic.specs.Stands.{by_call}
use Rattle.big_atomic.specs.Sums.{AddUpTo, Adding}
use Rattle.cache_hash.specs.declared.answers.Update.{Update as UpdateAnswer}
use Rattle.cache_hash.specs.declared.answers.Update.TheVariants.{Done as UpdateDone, Full as UpdateFull}
use Rattle.seat_history.specs.Key.{key_number}
use Rattle.seat_history.specs.declared.call.Call.{Call}
use Rattle.seat_history.specs.declared.call.Call.TheVariants.{Insert, Replace, Remove}
use Rattle.seat_history.specs.declared.reply.Reply.{Reply}
use Rattle.seat_history.specs.declared.key.KeyWords.{KeyWords}
use Rattle.seat_history.specs.declared.reply.Reply.TheVariants.{Done, Gone, Yes}
use Rattle.step_rules.specs.SeatData.{SeatData}
use Rattle.step_rules.specs.declared.view.Stand.{Stand}

-- the call with this reply adds the amount x to the key with the number k: an insert that is Done begins it with a value that says x, and a
-- replace that is answered Yes puts one that says x more than the old one. `says val a`: this value says the amount a
abbrev pub AddsToKey : {V : Type 0} → Adding V → (List ℕ → V → Type 0) → ℕ → V → Call → Reply → Type 0
AddsToKey A says k x (Insert key val) Done = (key_number key ≡ k → says val x) × (key_number key ≢ k → x ≡ A.none)
AddsToKey {V} A says k x (Replace key old new) Yes = (key_number key ≡ k → (a : V) → says old a → says new (A.add a x)) × (key_number key ≢ k → x ≡ A.none)
AddsToKey A says k x (Remove key) (Gone val) = (key_number key ≢ k) × (x ≡ A.none)
AddsToKey A says k x _ _ = x ≡ A.none

-- a value says the sum; where there is none, nothing was added
abbrev pub IsSum : {V : Type 0} → Adding V → (List ℕ → V → Type 0) → Option (List ℕ) → V → Type 0
IsSum A says None sum = sum ≡ A.none
IsSum A says (Some val) sum = says val sum

-- the call begins a key with 1, or replaces a value by one whose number is one more; it takes none out
abbrev pub CountsKeys : (List ℕ → ℕ) → Call → Type 0
CountsKeys number (Insert key val) = number val ≡ 1
CountsKeys number (Replace key old new) = number new ≡ (number old + 1) % 2 ^ 64
CountsKeys number (Remove key) = ⊥
CountsKeys number _ = ⊤

-- the key with this number was counted up
abbrev pub tells_key : ℕ → Call → Reply → Bool
tells_key k (Insert key val) Done = key_number key == k
tells_key k (Replace key old new) Yes = key_number key == k
tells_key k _ _ = false

-- how often the key with this number was counted up
abbrev pub times_counted : ℕ → List Stand → ℕ
times_counted k stands = count_by (by_call (tells_key k)) stands

-- a value says n, modulo 2^64; there is none where n is 0
abbrev pub IsCount : (List ℕ → ℕ) → Option (List ℕ) → ℕ → Type 0
IsCount number None n = n ≡ 0
IsCount number (Some val) n = (0 < n) × (number val ≡ n % 2 ^ 64)

-- the value put says one more than the one there, and 1 where there is none
abbrev pub PutsOneMore : (List ℕ → ℕ) → Option (List ℕ) → List ℕ → Type 0
PutsOneMore number None val = number val ≡ 1
PutsOneMore number (Some old) val = number val ≡ (number old + 1) % 2 ^ 64

-- all calls of a seat have only counted
abbrev pub OnlyCount : (List ℕ → ℕ) → List Stand → Type 0
OnlyCount number stands = All (λ (s : Stand). CountsKeys number s.call) stands

-- how often an update of the key with this answer counts the key with the number k: once where it is Done
abbrev pub counted_once : KeyWords → UpdateAnswer → ℕ → ℕ
counted_once key (UpdateDone there) k = cond (key_number key == k) 1 0
counted_once key (UpdateFull need free) k = 0

-- an update of the key that counts: a seat that has only counted has so after it, and counted the key once more
pub record CountsMore (number : List ℕ → ℕ) (key : KeyWords) (answer : UpdateAnswer) (before after : SeatData) : Type 0 where
  pub only : OnlyCount number before.view.stands → OnlyCount number after.view.stands
  pub count : (k : ℕ) → times_counted k after.view.stands ≡ times_counted k before.view.stands + counted_once key answer k

-- the value put says an amount more than the one there, and that amount where there is none; it may hang on what is there
abbrev pub PutsMore : {V : Type 0} → Adding V → (List ℕ → V → Type 0) → (Option (List ℕ) → V) → Option (List ℕ) → List ℕ → Type 0
PutsMore A says amount None val = says val (amount None)
PutsMore {V} A says amount (Some old) val = (a : V) → says old a → says val (A.add a (amount (Some old)))

-- what an update of the key with this answer adds to the key with the number k: where it is Done, the amount for what it found there
abbrev pub amount_added : {V : Type 0} → Adding V → (Option (List ℕ) → V) → KeyWords → UpdateAnswer → ℕ → V
amount_added A amount key (UpdateDone there) k = cond (key_number key == k) (amount there) A.none
amount_added A amount key (UpdateFull need free) k = A.none

-- a seat's stands add so much to the key with the number k
abbrev pub AddToKey : {V : Type 0} → Adding V → (List ℕ → V → Type 0) → ℕ → List Stand → V → Type 0
AddToKey A says k stands sum = AddUpTo A (λ x (s : Stand). AddsToKey A says k x s.call s.reply) stands sum
