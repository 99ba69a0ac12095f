-- The records of a cell: a register's one, or a bucket's pairs, the one whose insert is the last first.
use Rattle.std.specs.Prelude.{◌≡◌, ℕ, ◌+◌, ◌*◌, ◌-◌, ◌^◌, ◌<◌, ◌==◌, Bool, false, not, ◌&&◌, is_none, is_some, suc, List, [], ◌∷◌, ◌++◌, Option, Some}
use Rattle.std.specs.Prelude.{None, length, take, drop, max}
use Rattle.std.specs.Prelude.{slice_index, nat_lt, if◌then◌else◌, ⊤}
use Rattle.seat_history.specs.Contents.{zeros}
use Rattle.seat_history.specs.Key.{key_number}
use Rattle.seat_history.specs.Step.{is_same, is_value}
use Rattle.seat_history.specs.declared.call.Call.{Call}
use Rattle.seat_history.specs.declared.call.Call.TheVariants.{Store, Swap, Insert, Replace, Remove}
use Rattle.seat_history.specs.declared.entry.Entry.{Entry}
use Rattle.seat_history.specs.declared.key.KeyWords.{KeyWords}
use Rattle.seat_history.specs.declared.words.TheConstants.{WIDTH}
use Rattle.step_rules.specs.History.{cell_of}
use Rattle.step_rules.specs.World.{END}
use Rattle.step_rules.specs.declared.layout.TheConstants.{NODE_WIDTH}
use Rattle.step_rules.specs.declared.plan.Plan.{Plan}
use Rattle.step_rules.specs.declared.view.Held.{Held}

-- a record in a bucket: the key's words, and the value's
abbrev pub pair : KeyWords → List ℕ → List ℕ
pair key val = key.k0 ∷ key.k1 ∷ val

-- the record of the same key with this value
abbrev pub with_value : List ℕ → List ℕ → List ℕ
with_value rec val = slice_index rec 0 ∷ slice_index rec 1 ∷ val

-- the number of its key
abbrev pub key_in : List ℕ → ℕ
key_in rec = slice_index rec 0 * 2 ^ 64 + slice_index rec 1

-- the value of the key with this number
abbrev pub value_in : List (List ℕ) → ℕ → Option (List ℕ)
value_in [] n = None
value_in (r ∷ rs) n = if key_in r == n then Some (drop 2 r) else value_in rs n

-- the place of the key with this number; the length where it isn't there
abbrev pub place_in : List (List ℕ) → ℕ → ℕ
place_in [] n = 0
place_in (r ∷ rs) n = if key_in r == n then 0 else suc (place_in rs n)

-- the first record, or none
abbrev pub first_of : List (List ℕ) → List ℕ
first_of [] = []
first_of (r ∷ rs) = r

-- a change of a cell's records at a place
pub data Edit : Type 0 where
  put : List ℕ → Edit
  set : ℕ → List ℕ → Edit
  out : ℕ → Edit

-- the records after it
abbrev pub edited : List (List ℕ) → Edit → List (List ℕ)
edited rs (put new) = new ∷ rs
edited rs (set i new) = take i rs ++ new ∷ drop (suc i) rs
edited rs (out i) = take i rs ++ drop (suc i) rs

-- the call would change the records of its cell
abbrev pub is_change_in : List (List ℕ) → Call → Bool
is_change_in rs (Store reg new) = not (is_same (first_of rs) new)
is_change_in rs (Swap reg old new) = is_same (first_of rs) old && not (is_same old new)
is_change_in rs (Insert key val) = is_none (value_in rs (key_number key))
is_change_in rs (Replace key old new) = is_value (value_in rs (key_number key)) old && not (is_same old new)
is_change_in rs (Remove key) = is_some (value_in rs (key_number key))
is_change_in rs _ = false

-- the change that it makes
abbrev pub edit_of : List (List ℕ) → Call → Edit
edit_of rs (Store reg new) = set 0 new
edit_of rs (Swap reg old new) = set 0 new
edit_of rs (Insert key val) = put (pair key val)
edit_of rs (Replace key old new) = set (place_in rs (key_number key)) (pair key new)
edit_of rs (Remove key) = out (place_in rs (key_number key))
edit_of rs _ = set 0 (first_of rs)

-- the records of its cell after the call
abbrev pub records_after : List (List ℕ) → Call → List (List ℕ)
records_after rs call = if is_change_in rs call then edited rs (edit_of rs call) else rs

-- the records of the cell k after the entries, where they were these
abbrev pub records_from : Plan → ℕ → List (List ℕ) → List Entry → List (List ℕ)
records_from p k rs [] = rs
records_from p k rs (e ∷ es) = records_from p k (if cell_of p e.call == k then records_after rs e.call else rs) es

-- at the start a register is zeros, and a bucket is empty
abbrev pub first_records : Plan → ℕ → List (List ℕ)
first_records p k = if nat_lt k p.registers then zeros ∷ [] else []

-- the records of the cell k after the history
abbrev pub records_at : Plan → List Entry → ℕ → List (List ℕ)
records_at p log k = records_from p k (first_records p k) log

-- how many nodes an edit of n records needs, and how many fall out
abbrev pub need : ℕ → Edit → ℕ
need n (put new) = if n == 0 then 1 else 2
need n (set i new) = suc i
need n (out i) = if i == 0 then 1 else i

abbrev pub dropped_count : ℕ → Edit → ℕ
dropped_count n (put new) = 1
dropped_count n (set i new) = suc i
dropped_count n (out i) = if i == 0 then (if n == 1 then 1 else 2) else suc i

-- the records of the nodes that come in
abbrev pub fresh_records : List (List ℕ) → Edit → List (List ℕ)
fresh_records rs (put new) = new ∷ take 1 rs
fresh_records rs (set i new) = take i rs ++ new ∷ []
fresh_records rs (out i) = if i == 0 then take 1 (drop 1 rs) else take i rs

-- the place that it names is there
abbrev pub Within : ℕ → Edit → Type 0
Within n (put new) = ⊤
Within n (set i new) = i < n
Within n (out i) = i < n

-- by how many nodes it makes the seat's stock fall and rise
abbrev pub cost_of : ℕ → Edit → ℕ
cost_of n (put new) = if n == 0 then 0 else 1
cost_of n (set i new) = 0
cost_of n (out i) = 0

abbrev pub gain_of : ℕ → Edit → ℕ
gain_of n (put new) = 0
gain_of n (set i new) = 0
gain_of n (out i) = if n == 1 then 0 else 1

-- what a call needs after the history
abbrev pub need_in : Plan → List Entry → Call → ℕ
need_in p log call = need (length (records_at p log (cell_of p call))) (edit_of (records_at p log (cell_of p call)) call)

-- what a call needs, costs and gives at a place of the history
abbrev pub found_at : Plan → List Entry → ℕ → Call → List (List ℕ)
found_at p log q call = records_at p (take q log) (cell_of p call)

abbrev pub edit_at : Plan → List Entry → ℕ → Call → Edit
edit_at p log q call = edit_of (found_at p log q call) call

abbrev pub need_at : Plan → List Entry → ℕ → Call → ℕ
need_at p log q call = need (length (found_at p log q call)) (edit_at p log q call)

abbrev pub cost_at : Plan → List Entry → ℕ → Call → ℕ
cost_at p log q call = cost_of (length (found_at p log q call)) (edit_at p log q call)

abbrev pub gain_at : Plan → List Entry → ℕ → Call → ℕ
gain_at p log q call = gain_of (length (found_at p log q call)) (edit_at p log q call)

-- the record in a node's words
abbrev pub record_in : List ℕ → List ℕ
record_in ws = take WIDTH ws

-- the records of a chain: a node whose next word is END has none
abbrev pub records_of : List Held → List (List ℕ)
records_of [] = []
records_of (h ∷ r) = if slice_index h.words (NODE_WIDTH - 1) == END then records_of r else record_in h.words ∷ records_of r

-- one node for each record, and one for none
abbrev pub IsCounted : List Held → Type 0
IsCounted hs = length hs ≡ max 1 (length (records_of hs))

-- how many removes a call spends
abbrev pub removes_of : Call → ℕ
removes_of (Remove key) = 1
removes_of _ = 0
