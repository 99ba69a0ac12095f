-- What is kept of each item, and what comes of it.
use Rattle.std.specs.Prelude.{◌≡◌, ℕ, ◌+◌, ◌%◌, ◌^◌, ◌<◌, ◌≤◌, ◌==◌, Bool, List, Option, Some, None, count_by, sum_by, slice_index, if◌then◌else◌}
use Rattle.big_atomic.specs.Seats.{IsQuietOf}
use Rattle.cache_hash.specs.Room.{IsNeverShort}
use Rattle.cache_hash.specs.Sums.{AddToKey}
use Rattle.seat_history.specs.Key.{key_number}
use Rattle.seat_history.specs.Pairs.{Pairs, value_in}
use Rattle.step_rules.specs.SeatData.{ObjectData, SeatData}
use Rattle.stock_room.specs.Shelf.{shelf}
use Rattle.stock_room.specs.declared.orders.Lot.{Lot}

-- how many of an item are left, and how many are reserved
abbrev pub in_stock : List ℕ → ℕ
in_stock val = slice_index val 0

abbrev pub reserved : List ℕ → ℕ
reserved val = slice_index val 1

abbrev pub is_item : ℕ → Lot → Bool
is_item k lot = key_number lot.item == k

-- how often the item with this number is in the list, and with how much in all
abbrev pub times_listed : ℕ → List Lot → ℕ
times_listed k lots = count_by (is_item k) lots

abbrev pub amount_of : ℕ → Lot → ℕ
amount_of k lot = if is_item k lot then lot.amount else 0

abbrev pub stock_listed : ℕ → List Lot → ℕ
stock_listed k lots = sum_by (amount_of k) lots

-- so many go from stock to reserved, where so many are left; nothing is put in where the item isn't there
abbrev pub Reserves : ℕ → Option (List ℕ) → List ℕ → Type 0
Reserves amount None val = (in_stock val ≡ 0) × (reserved val ≡ 0)
Reserves amount (Some old) val =
    (amount ≤ in_stock old → (in_stock val + amount ≡ in_stock old) × (reserved val ≡ (reserved old + amount) % 2 ^ 64))
    × (in_stock old < amount → (in_stock val ≡ in_stock old) × (reserved val ≡ reserved old))

-- the value tells that so much was put in; how often isn't told
abbrev pub Tells : List ℕ → ℕ × ℕ → Type 0
Tells val put = (in_stock val + reserved val ≡ put.0) × (put.0 < 2 ^ 64)

-- a seat that put in these lots, and else only reserved, between two calls
pub record HasStocked (shared : ObjectData) (lots : List Lot) (seat : SeatData) : Type 0 where
  pub never_short : IsNeverShort shared seat
  pub quiet : IsQuietOf shared seat
  pub put : (k : ℕ) → AddToKey shelf Tells k seat.view.stands (stock_listed k lots, times_listed k lots)

-- a listed item is there, and what is left of it and what is reserved come to its stock
abbrev pub IsKept : Option (List ℕ) → ℕ → ℕ → Type 0
IsKept None stock times = times ≡ 0
IsKept (Some val) stock times = in_stock val + reserved val ≡ stock

abbrev pub AreKept : List Lot → Pairs → Type 0
AreKept items pairs = (k : ℕ) → IsKept (value_in pairs k) (stock_listed k items) (times_listed k items)
