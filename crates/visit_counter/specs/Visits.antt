-- What the visitors count, and what comes of it.
use Rattle.std.specs.Prelude.{◌≡◌, ℕ, ◌+◌, ◌*◌, ◌<◌, ◌≤◌, ◌==◌, Bool, List, Option, Some, None, count_by, length, slice_index}
use Rattle.cache_hash.specs.Prelude.{IsNeverShort, IsQuietOf, KeyWords, ObjectData, OnlyCount, Pairs, SeatData, key_number, times_counted, value_in}

-- the visits in a value
abbrev pub visits : List ℕ → ℕ
visits val = slice_index val 0

abbrev pub is_page : ℕ → KeyWords → Bool
is_page k page = key_number page == k

-- how often the page with this number is in the list
abbrev pub times_listed : ℕ → List KeyWords → ℕ
times_listed k pages = count_by (is_page k) pages

-- a seat that made a visit of each of these pages and no other call, between two calls
pub record HasVisited (shared : ObjectData) (pages : List KeyWords) (seat : SeatData) : Type 0 where
  pub never_short : IsNeverShort shared seat
  pub quiet : IsQuietOf shared seat
  pub only : OnlyCount visits seat.view.stands
  pub count : (k : ℕ) → times_counted k seat.view.stands ≡ times_listed k pages
  pub left : shared.plan.changes ≤ seat.view.changes + length pages

-- a page has so many visits, and isn't there where it has none
abbrev pub IsTotal : Option (List ℕ) → ℕ → Type 0
IsTotal None n = n ≡ 0
IsTotal (Some val) n = (0 < n) × (visits val ≡ n)

-- each page has a visit of each visitor for each time that it is in the list
abbrev pub AreTotals : List KeyWords → ℕ → Pairs → Type 0
AreTotals pages visitors pairs = (k : ℕ) → IsTotal (value_in pairs k) (visitors * times_listed k pages)
