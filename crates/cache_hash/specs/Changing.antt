-- A change of a key's pair as far as it has come.
use Rattle.std.specs.Prelude.{◌≡◌, ◌⊎◌, ℕ, ◌+◌, ◌*◌, ◌/◌, ◌<◌, ◌≤◌, Bool, true, false, List, [], ◌∷◌, Option, None, length, filter}
use Rattle.big_atomic.specs.Calling.{Goes, HasClaim, IsLooked, Paces}
use Rattle.chain_links.specs.Walking.{MadeNoChange}
use Rattle.big_atomic.specs.Installing.{HasNear}
use Rattle.big_atomic.specs.Marks.{HasTurn}
use Rattle.big_atomic.specs.Ready.{IsReady}
use Rattle.big_atomic.specs.Turns.{exchanges, lost_steps, scan_loads}
use Rattle.cache_hash.specs.Asking.{AreInserts, AsksFor, Decides, HasEnded, NoneChanges, call_for, would_change}
use Rattle.cache_hash.specs.Calls.{NeedsNodes, WantsNodes, value_at}
use Rattle.big_atomic.specs.declared.starting.Start.{Start}
use Rattle.cache_hash.specs.declared.asked.Change.{Change}
use Rattle.cache_hash.specs.declared.asked.Decision.{Decision}
use Rattle.cache_hash.specs.declared.asked.Decision.TheVariants.{Changes}
use Rattle.cache_hash.specs.declared.asked.Due.{Due}
use Rattle.cache_hash.specs.declared.asked.Told.{Told}
use Rattle.cache_hash.specs.declared.asked.Told.TheVariants.{Plain, Full}
use Rattle.cache_hash.specs.declared.turns.Turn.{Turn}
use Rattle.cache_hash.specs.declared.turns.Turn.TheVariants.{Ends, Moved}
use Rattle.hazard_claims.specs.Scanning.{IsScan, names}
use Rattle.seat_history.specs.Key.{key_number}
use Rattle.seat_history.specs.declared.call.Call.{Call}
use Rattle.seat_history.specs.declared.key.KeyWords.{KeyWords}
use Rattle.step_rules.specs.Bags.{times}
use Rattle.step_rules.specs.Claims.{BACK, HOLD, On, OWN}
use Rattle.step_rules.specs.History.{IsWide, key_cell}
use Rattle.step_rules.specs.Records.{need_at, records_at, removes_of, value_in}
use Rattle.step_rules.specs.SeatData.{IsSeat, ObjectData, SeatData}
use Rattle.step_rules.specs.Steps.{HasScanned}
use Rattle.step_rules.specs.Views.{claim_of, claimed_records}
use Rattle.step_rules.specs.declared.view.Counted.{Counted}

-- a call on a key's pair: the ready seat that it began with, and the changes that its turns came to, each with the key's value that the turn found
pub record Begun (shared : ObjectData) (key : KeyWords) : Type 0 where
  pub before : SeatData
  pub came : List (Option (List ℕ) × Change)
  pub ready : IsReady shared before
  pub some : 0 < before.view.plan.buckets
  pub left : 0 < before.view.changes

-- a turn that found this came to this change
abbrev pub HasCome : List (Option (List ℕ) × Change) → Option (List ℕ) → Change → Type 0
HasCome [] there change = ⊥
HasCome (turn ∷ earlier) there change = ((there ≡ turn.0) × (change ≡ turn.1)) ⊎ HasCome earlier there change

-- its turns came to such changes alone
abbrev pub CameBy : {shared : ObjectData} {key : KeyWords} → (Option (List ℕ) → Change → Type 0) → Begun shared key → Type 0
CameBy among b = (there : Option (List ℕ)) (change : Change) → HasCome b.came there change → among there change

-- the seat may make this change
pub record MayAsk (key : KeyWords) (change : Change) (before : SeatData) : Type 0 where
  pub removes : removes_of (call_for key change) ≤ before.view.removes
  pub wide : IsWide (call_for key change)

-- no scan was made
pub record HasNotScanned (steps : List Counted) (before now : SeatData) : Type 0 where
  pub none : scan_loads steps ≡ 0
  pub retired : now.view.retired ≡ before.view.retired

-- one whole scan was made, for want of nodes
pub record HasMadeScan (due : Call → Type 0) (steps : List Counted) (look : ℕ) (before now : SeatData) : Type 0 where
  pub scan : HasScanned now.view steps
  pub all : scan_loads steps ≡ 4 * before.view.plan.seats
  pub retired : now.view.retired ≡ filter (λ n. names n scan.loads) before.view.retired
  pub few : length now.view.retired ≤ 4 * before.view.plan.seats
  pub want : WantsNodes due look (length now.view.seen) before now.view

abbrev pub Scans : Bool → (Call → Type 0) → List Counted → ℕ → SeatData → SeatData → Type 0
Scans false due steps look before now = HasNotScanned steps before now
Scans true due steps look before now = HasMadeScan due steps look before now

-- the free nodes are those that were free, and where only inserts are asked for in their order
pub record KeepsFree (inserts : Type 0) (old new : List ℕ) : Type 0 where
  pub nodes : (n : ℕ) → times n new ≡ times n old
  pub order : inserts → new ≡ old

-- these steps try a change: by an exchange, or up to a lost step at which the copy is given up, which an insert's isn't
pub record Tries (inserts : Type 0) (steps : List Counted) : Type 0 where
  pub tried : 0 < exchanges steps + lost_steps steps
  pub exchanged : inserts → 0 < exchanges steps

-- it made these steps on its key's cell, and one claim serves its turn; it holds no node, and its Own word is 0. Without a scan and an exchange the
-- free nodes are those at first, and a call that never changes an object tries no exchange
pub record Changing {shared : ObjectData} {key : KeyWords} (b : Begun shared key) (cell : ℕ) (scanned : Bool) (now : SeatData) : Type 0 where
  pub cell_is : key_cell b.before.view.plan (key_number key) ≡ cell
  pub steps : List Counted
  pub look : ℕ
  pub goes : Goes cell None steps b.before now
  pub looked : IsLooked cell steps look b.before now
  pub paced : Paces 0 1 steps
  pub idle : now.holding ≡ []
  pub used : now.fresh ≡ false
  pub hold : claim_of HOLD now.view ≡ claim_of HOLD b.before.view
  pub own : (claim_of OWN now.view).word ≡ 0
  pub scans : Scans scanned (AsksFor key (HasCome b.came)) steps look b.before now
  pub untouched : scanned ≡ false → exchanges steps ≡ 0 → KeepsFree (AreInserts key (HasCome b.came)) b.before.free now.free
  pub never : NoneChanges (HasCome b.came) → exchanges steps ≡ 0

-- a scan was followed by an exchange, or a copy that was given up
pub record HasTried {shared : ObjectData} {key : KeyWords} (b : Begun shared key) (cell : ℕ) (scanned : Bool) (now : SeatData) : Type 0 where
  pub going : Changing b cell scanned now
  pub tried : scanned ≡ true → Tries (AreInserts key (HasCome b.came)) going.steps

-- the cell was found to name another node than the claimed one: more of the history is seen, and no claim serves any more
pub record HasLostTurn {shared : ObjectData} {key : KeyWords} (b : Begun shared key) (cell : ℕ) (scanned : Bool) (old now : SeatData) : Type 0 where
  pub so_far : HasTried b cell scanned now
  pub paced : Paces 0 0 so_far.going.steps
  pub longer : length old.view.seen < length now.view.seen

-- a turn begins: the cell's version was found, and then its node claimed, by the word that was found last
pub record IsAtTurn {shared : ObjectData} {key : KeyWords} (b : Begun shared key) (cell : ℕ) (start : Start) (scanned : Bool) (now : SeatData) : Type 0 where
  pub so_far : HasTried b cell scanned now
  pub turn : HasTurn cell start.version start.word so_far.going.steps
  pub claim : HasClaim BACK cell start.word now

-- the claimed chain has the cell's records at the end of what is seen, and the key has this value there
pub record KnowsChain (key : KeyWords) (cell word : ℕ) (found : Option (List ℕ)) (seat : SeatData) : Type 0 where
  pub near : HasNear cell word seat.view
  pub stands : On (claim_of BACK seat.view) (word / 2)
  pub cell_is : (claim_of BACK seat.view).cell ≡ cell
  pub records : records_at seat.view.plan seat.view.seen cell ≡ claimed_records seat.view
  pub value : value_in (claimed_records seat.view) (key_number key) ≡ found
  pub none : seat.noted ≡ []
  pub unchanged : MadeNoChange cell seat.view
  pub law : IsSeat seat

-- so the turn comes to this change, and this is decided
pub record HasDecided {shared : ObjectData} {key : KeyWords} (b : Begun shared key) (cell : ℕ) (start : Start) (change : Change) (decision : Decision)
    (scanned : Bool) (now : SeatData) : Type 0 where
  pub so_far : HasTried b cell scanned now
  pub turn : HasTurn cell start.version start.word so_far.going.steps
  pub found : Option (List ℕ)
  pub may : MayAsk key change b.before
  pub asked : HasCome b.came found change
  pub chain : KnowsChain key cell start.word found now
  pub decides : Decides key change found (claimed_records now.view) decision

-- the object is to change
pub record IsDue {shared : ObjectData} {key : KeyWords} (b : Begun shared key) (cell : ℕ) (start : Start) (change : Change) (due : Due)
    (scanned : Bool) (now : SeatData) : Type 0 where
  pub so_far : HasTried b cell scanned now
  pub turn : HasTurn cell start.version start.word so_far.going.steps
  pub may : MayAsk key change b.before
  pub asked : HasCome b.came due.there change
  pub chain : KnowsChain key cell start.word due.there now
  pub decides : Decides key change due.there (claimed_records now.view) (Changes due)

-- and may, as so many nodes are free as are needed
pub record MayMake {shared : ObjectData} {key : KeyWords} (b : Begun shared key) (cell : ℕ) (start : Start) (change : Change) (due : Due)
    (scanned : Bool) (now : SeatData) : Type 0 where
  pub going : Changing b cell scanned now
  pub turn : HasTurn cell start.version start.word going.steps
  pub may : MayAsk key change b.before
  pub asked : HasCome b.came due.there change
  pub chain : KnowsChain key cell start.word due.there now
  pub decides : Decides key change due.there (claimed_records now.view) (Changes due)
  pub free : due.need ≤ length now.free

-- a seat that had scanned in this call, or had as many free nodes, stays; another scanned
pub data MakesRoom (need : ℕ) (scanned made : Bool) (old new : SeatData) : Type 0 where
  stays : new ≡ old → made ≡ scanned → (scanned ≡ true) ⊎ (need ≤ length old.free) → MakesRoom need scanned made old new
  scans : made ≡ true → scanned ≡ false → length old.free < need → IsScan old new → MakesRoom need scanned made old new

-- the call may end so by the change, without making it
abbrev pub Knows : KeyWords → (Option (List ℕ) → Change → Type 0) → Change → Told → Bool → List Counted → SeatData → Type 0
Knows key among change (Plain there) scanned steps now = (value_at now.view (length now.view.seen) key ≡ there) × (would_change change there ≡ false)
    × (scanned ≡ true → Tries (AreInserts key among) steps)
Knows key among change (Full need free) scanned steps now = NeedsNodes (call_for key change) (length now.view.seen) need now.view
    × (need ≡ need_at now.view.plan now.view.seen (length now.view.seen) (call_for key change)) × (scanned ≡ true) × (free ≡ length now.free) × (free < need)

pub record KnowsEnd {shared : ObjectData} {key : KeyWords} (b : Begun shared key) (cell : ℕ) (change : Change) (told : Told) (now : SeatData) : Type 0 where
  pub scanned : Bool
  pub going : Changing b cell scanned now
  pub asked : HasCome b.came (value_at now.view (length now.view.seen) key) change
  pub knows : Knows key (HasCome b.came) change told scanned going.steps now

-- a turn ended the call by a change, or was lost
abbrev pub HasTurned : {shared : ObjectData} {key : KeyWords} → Begun shared key → ℕ → Turn → SeatData → SeatData → Type 0
HasTurned {shared = shared} {key = key} b cell (Ends told) old new = IsReady shared new × ((change : Change) × HasEnded key (HasCome b.came) change told b.before new)
HasTurned b cell (Moved made) old new = HasLostTurn b cell made old new

-- so did a turn of a call whose turns come to such changes alone; it may have come to one more
pub record TurnsBy {shared : ObjectData} {key : KeyWords} (among : Option (List ℕ) → Change → Type 0) (b : Begun shared key) (cell : ℕ) (turn : Turn)
    (old new : SeatData) : Type 0 where
  pub now : Begun shared key
  pub same : now.before ≡ b.before
  pub by : CameBy among now
  pub turned : HasTurned now cell turn old new
