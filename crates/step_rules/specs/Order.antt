-- A bucket's records after a history, in the order of their keys' last inserts, and what a change needs there.
use Rattle.std.specs.Prelude.{◌≡◌, ◌≢◌, ℕ, ◌<◌, ◌==◌, Bool, true, false, suc, List, [], length, if◌then◌else◌}
use mathlib.Core.Option.{some}
use lib.ListN.{get_elem?}
use Rattle.seat_history.specs.Change.{is_change}
use Rattle.seat_history.specs.History.{state_at}
use Rattle.seat_history.specs.Key.{key_number}
use Rattle.seat_history.specs.declared.call.Call.{Call}
use Rattle.seat_history.specs.declared.call.Call.TheVariants.{Insert, Replace, Remove}
use Rattle.seat_history.specs.declared.entry.Entry.{Entry}
use Rattle.seat_history.specs.declared.words.TheConstants.{WIDTH}
use Rattle.step_rules.specs.History.{AreWords, IsHistory, IsThere, cell_of, key_cell}
use Rattle.step_rules.specs.Records.{key_in, need_in, records_at, value_in}
use Rattle.step_rules.specs.declared.plan.Plan.{Plan}

-- the call puts the key with this number in
abbrev pub inserts : Call → ℕ → Bool
inserts (Insert key val) n = key_number key == n
inserts _ n = false

-- the last insert of the key with the number n is the entry at the place i
pub record IsLastInsert (log : List Entry) (n i : ℕ) : Type 0 where
  pub entry : Entry
  pub at : get_elem? log i ≡ some entry
  pub inserted : inserts entry.call n ≡ true
  pub last : (j : ℕ) (e : Entry) → i < j → get_elem? log j ≡ some e → inserts e.call n ≡ false

-- the records are the map's pairs whose keys are of the cell k, after the history, the key whose last insert stands latest first; so no key
-- stands in two of them
pub record AreRecordsOf (p : Plan) (log : List Entry) (k : ℕ) (rs : List (List ℕ)) : Type 0 where
  pub values : (n : ℕ) → key_cell p n ≡ k → value_in rs n ≡ (state_at log (length log)).values n
  pub keys : (i : ℕ) (r : List ℕ) → get_elem? rs i ≡ some r → key_cell p (key_in r) ≡ k
  pub words : (i : ℕ) (r : List ℕ) → get_elem? rs i ≡ some r → AreWords WIDTH r
  pub inserted : (i : ℕ) (r : List ℕ) → get_elem? rs i ≡ some r → (t : ℕ) × IsLastInsert log (key_in r) t
  pub falling : (i j s t : ℕ) (a b : List ℕ) → i < j → get_elem? rs i ≡ some a → get_elem? rs j ≡ some b
      → IsLastInsert log (key_in a) s → IsLastInsert log (key_in b) t → t < s

-- the key with the number n stands in the record at the place i
pub record StandsAt (rs : List (List ℕ)) (n i : ℕ) : Type 0 where
  pub rec : List ℕ
  pub at : get_elem? rs i ≡ some rec
  pub key : key_in rec ≡ n

-- a change of these records needs so many nodes: one, but two for an insert beside other records; all up to the record that a replace sets;
-- and those before the record that a remove takes out, where it isn't the first
abbrev pub Needs : List (List ℕ) → Call → ℕ → Type 0
Needs rs (Insert key val) count = (rs ≡ [] → count ≡ 1) × (rs ≢ [] → count ≡ 2)
Needs rs (Replace key old new) count = (i : ℕ) × StandsAt rs (key_number key) i × (count ≡ suc i)
Needs rs (Remove key) count = (i : ℕ) × StandsAt rs (key_number key) i × (count ≡ (if i == 0 then 1 else i))
Needs rs _ count = count ≡ 1

-- what a change needs after the history is by the order of its cell's records
abbrev pub NeedsByOrder : Plan → List Entry → Call → Type 0
NeedsByOrder p log call = IsHistory p log → IsThere p call → is_change (state_at log (length log)) call ≡ true
    → Needs (records_at p log (cell_of p call)) call (need_in p log call)
