-- Entries of the history, by cell and by caller.
use Rattle.std.specs.Int.{rotate_left, w64}
use Rattle.std.specs.Prelude.{◌≡◌, ◌≢◌, ℕ, ◌+◌, ◌*◌, ◌/◌, ◌%◌, ◌^◌, ◌<◌, ◌==◌, true, List, [], ◌∷◌, ◌++◌, length, filter, bit_xor, slice_index, ⊤}
use mathlib.Core.Option.{some}
use lib.ListN.{get_elem?}
use Rattle.seat_history.specs.Change.{is_change}
use Rattle.seat_history.specs.Contents.{Contents}
use Rattle.seat_history.specs.History.{state_at}
use Rattle.seat_history.specs.declared.call.Call.{Call}
use Rattle.seat_history.specs.Key.{key_number}
use Rattle.seat_history.specs.declared.call.Call.TheVariants.{Load, Store, Swap, Hold, Look, Release, Find, Insert, Replace, Remove}
use Rattle.seat_history.specs.declared.entry.Entry.{Entry}
use Rattle.seat_history.specs.declared.key.KeyWords.{KeyWords}
use Rattle.seat_history.specs.declared.words.TheConstants.{VALUE_WIDTH, WIDTH}
use Rattle.step_rules.specs.Layout.{cells}
use Rattle.step_rules.specs.declared.plan.Plan.{Plan}

-- the bucket, of so many, of the key with the number n
unfoldable pub bucket_of : ℕ → ℕ → ℕ
bucket_of buckets n = (bit_xor (n / 2 ^ 64) (rotate_left w64 (n % 2 ^ 64) 32) * 11400714819323198485 % 2 ^ 64 / 2 ^ 32) % buckets

-- the cell of that bucket
abbrev pub key_cell : Plan → ℕ → ℕ
key_cell p n = p.registers + bucket_of p.buckets n

-- the cell that a call is on; a number past the last cell where it is on none
abbrev pub cell_of : Plan → Call → ℕ
cell_of p (Load reg) = reg
cell_of p (Store reg new) = reg
cell_of p (Swap reg old new) = reg
cell_of p (Hold reg) = reg
cell_of p Look = cells p
cell_of p Release = cells p
cell_of p (Find key) = key_cell p (key_number key)
cell_of p (Insert key val) = key_cell p (key_number key)
cell_of p (Replace key old new) = key_cell p (key_number key)
cell_of p (Remove key) = key_cell p (key_number key)

-- the register that a call names is there, and a key is named only where there is a bucket
abbrev pub IsThere : Plan → Call → Type 0
IsThere p (Load reg) = reg < p.registers
IsThere p (Store reg new) = reg < p.registers
IsThere p (Swap reg old new) = reg < p.registers
IsThere p (Hold reg) = reg < p.registers
IsThere p Look = ⊤
IsThere p Release = ⊤
IsThere p _ = 0 < p.buckets

-- the history goes on from a first part
abbrev pub GoesOn : List Entry → List Entry → Type 0
GoesOn part whole = (rest : List Entry) × (whole ≡ part ++ rest)

-- no entry is on the cell k
abbrev pub NoneOn : Plan → ℕ → List Entry → Type 0
NoneOn p k [] = ⊤
NoneOn p k (e ∷ r) = (cell_of p e.call ≢ k) × NoneOn p k r

-- no entry is the caller's
abbrev pub NoneBy : ℕ → List Entry → Type 0
NoneBy x [] = ⊤
NoneBy x (e ∷ r) = (e.caller ≢ x) × NoneBy x r

-- the caller's entries
abbrev pub entries_by : ℕ → List Entry → List Entry
entries_by x es = filter (λ (e : Entry). e.caller == x) es

-- so many words of 64 bits
pub record AreWords (count : ℕ) (ws : List ℕ) : Type 0 where
  pub long : length ws ≡ count
  pub below : (j : ℕ) → slice_index ws j < 2 ^ 64

-- the key's words are words of 64 bits, so its number tells them
abbrev pub IsKey : KeyWords → Type 0
IsKey key = (key.k0 < 2 ^ 64) × (key.k1 < 2 ^ 64)

-- the records that a call has are as wide as registers, and keys and values as wide as those of a table
abbrev pub IsWide : Call → Type 0
IsWide (Store reg new) = length new ≡ WIDTH
IsWide (Swap reg old new) = (length old ≡ WIDTH) × (length new ≡ WIDTH)
IsWide (Insert key val) = IsKey key × AreWords VALUE_WIDTH val
IsWide (Replace key old new) = IsKey key × AreWords VALUE_WIDTH new
IsWide (Remove key) = IsKey key
IsWide _ = ⊤

-- an entry of the history at its place: a caller's call that changes the contents of its cell
pub record IsEntry (p : Plan) (contents : Contents) (e : Entry) : Type 0 where
  pub caller : e.caller < p.seats
  pub there : IsThere p e.call
  pub changes : is_change contents e.call ≡ true
  pub wide : IsWide e.call

-- every entry changes the contents that it finds
pub record IsHistory (p : Plan) (log : List Entry) : Type 0 where
  pub each : (i : ℕ) (e : Entry) → get_elem? log i ≡ some e → IsEntry p (state_at log i) e
