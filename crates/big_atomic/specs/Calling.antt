-- What a call knows between its steps.
use Rattle.std.specs.Prelude.{◌≡◌, ◌≢◌, ℕ, ◌+◌, ◌-◌, ◌*◌, ◌/◌, ◌<◌, ◌≤◌, Bool, true, false, suc, zero, List, [], ◌∷◌, ◌++◌, Option, Some, None, ◌⊎◌, length, take, drop, unwrap_or, if◌then◌else◌}
use Rattle.big_atomic.specs.Calls.{register_at}
use Rattle.big_atomic.specs.Marks.{FoundWord, HasTurn}
use Rattle.big_atomic.specs.Ready.{IsReady}
use Rattle.big_atomic.specs.Turns.{TurnsArePaid, changes_on, claim_rounds, claim_stores, exchanges, last_look, lost_steps, node_stores, scan_loads}
use Rattle.hazard_claims.specs.Scanning.{IsScan}
use Rattle.hazard_claims.specs.declared.answers.Recheck.{Recheck as Rechecked}
use Rattle.hazard_claims.specs.declared.answers.Recheck.TheVariants.{Same, Other}
use Rattle.node_pool.specs.Pool.{IsRead}
use Rattle.seat_history.specs.History.{state_at}
use Rattle.seat_history.specs.Step.{is_same}
use Rattle.seat_history.specs.declared.call.Call.{Call}
use Rattle.seat_history.specs.declared.call.Call.TheVariants.{Swap}
use Rattle.seat_history.specs.declared.entry.Entry.{Entry}
use Rattle.seat_history.specs.declared.words.TheConstants.{WIDTH}
use Rattle.step_rules.specs.Bags.{IsWithout}
use Rattle.step_rules.specs.Claims.{BACK, HOLD, On}
use Rattle.step_rules.specs.History.{GoesOn, NoneOn}
use Rattle.step_rules.specs.Kinds.Standing.{first_look}
use Rattle.step_rules.specs.SeatData.{IsSeat, ObjectData, SeatData}
use Rattle.step_rules.specs.Sound.{Sound}
use Rattle.step_rules.specs.Steps.{OnlyStepped, Won, stepped}
use Rattle.step_rules.specs.Views.{claim_of, counted, look_at, number, stock, words_in}
use Rattle.step_rules.specs.World.{has, nodes_of}
use Rattle.step_rules.specs.declared.view.Counted.{Counted}
use Rattle.step_rules.specs.declared.view.Kind.TheVariants.{BackupLoad, ClaimStore, Recheck}
use Rattle.step_rules.specs.declared.view.View.{View}

-- the view w differs from v at most in what steps before a stand change
abbrev pub OnlySteps : View → View → Type 0
OnlySteps v w = w ≡ record v {
  seen = w.seen;
  own = w.own;
  retired = w.retired;
  look = w.look;
  trail = w.trail;
  claims = w.claims;
  scan = w.scan;
  reader = w.reader;
  writer = w.writer;
}

-- a call on the cell k made these steps, and none of them added a stand. `found` is how much it had seen at its last look before them, and at
-- its last look in them it saw all that it has seen
pub record Goes (k : ℕ) (found : Option ℕ) (steps : List Counted) (before now : SeatData) : Type 0 where
  pub only : OnlySteps before.view now.view
  pub trail : now.view.trail ≡ before.view.trail ++ steps
  pub seen : GoesOn before.view.seen now.view.seen
  pub last : last_look k found steps ≡ Some (length now.view.seen)
  pub paid : TurnsArePaid before.view.plan k (number before.view) now.view.seen found steps
  pub few : lost_steps steps ≤ changes_on before.view.plan k (number before.view) (drop (length before.view.seen) now.view.seen)
  pub object : now.object ≡ before.object
  pub first : now.first ≡ before.first
  pub stock : stock now.view ≡ stock before.view
  pub sound : Sound now.view

-- at most so many of the steps are lost, so many are exchanges, and so many there are
pub record Costs (lost tried many : ℕ) (steps : List Counted) : Type 0 where
  pub lost_most : lost_steps steps ≤ lost
  pub tried_most : exchanges steps ≤ tried
  pub most : length steps ≤ many

-- before these steps so many claims serve the turn (one or none), and after them so many: a claim round begins one, a lost step ends it, and at most two
-- exchanges were tried under one that has ended
pub record Paces (from to : ℕ) (steps : List Counted) : Type 0 where
  pub rounds : claim_rounds steps + from ≤ lost_steps steps + to
  pub tries : exchanges steps ≤ 2 * lost_steps steps

-- at most n steps were made, and two more for each lost one
pub record TakesFew (n : ℕ) (before now : SeatData) : Type 0 where
  pub steps : List Counted
  pub trail : now.view.trail ≡ before.view.trail ++ steps
  pub few : length steps ≤ n + 2 * lost_steps steps

-- the first look at the cell is among the steps
pub record IsLooked (k : ℕ) (steps : List Counted) (look : ℕ) (before now : SeatData) : Type 0 where
  pub looked : first_look k steps ≡ Some look
  pub from : length before.view.seen ≤ look
  pub upto : look ≤ length now.view.seen
  pub few : lost_steps steps ≤ changes_on before.view.plan k (number before.view) (drop look now.view.seen)

-- the seat's lists stay but for the links noted, and so do its claims but for one
pub record Stays (c : ℕ) (before now : SeatData) : Type 0 where
  pub same : OnlyStepped before now
  pub retired : now.view.retired ≡ before.view.retired
  pub own : now.view.own ≡ before.view.own
  pub others : (d : ℕ) → (d ≡ c → ⊥) → claim_of d now.view ≡ claim_of d before.view

-- no exchange was tried, and no scan was made
pub record AreLooks (steps : List Counted) : Type 0 where
  pub none_exchanged : exchanges steps ≡ 0
  pub none_scanned : scan_loads steps ≡ 0

-- the word was found last in the cell, at the end of what is seen
abbrev pub HasFound : ℕ → ℕ → View → Type 0
HasFound reg word v = v.look ≡ Some (look_at reg word (length v.seen))

-- the claim stands on the node of the word that was found last in the register's cell; under Back no link was noted since
pub record HasClaim (c reg word : ℕ) (seat : SeatData) : Type 0 where
  pub stands : On (claim_of c seat.view) (word / 2)
  pub cell : (claim_of c seat.view).cell ≡ reg
  pub now_at : (claim_of c seat.view).at ≡ length seat.view.seen
  pub found : HasFound reg word seat.view
  pub none : c ≡ BACK → seat.noted ≡ []

-- one look
abbrev pub LookedOnce : ℕ → ℕ → SeatData → SeatData → Type 0
LookedOnce reg word before now =
    ((found : Option ℕ) → Goes reg found (counted (BackupLoad reg) word (length now.view.seen) ∷ []) before now) × ((c : ℕ) → Stays c before now) × HasFound reg word now.view

-- an announcement of the node of the word seen, and a recheck that found a word
abbrev pub turn_steps : ℕ → ℕ → ℕ → ℕ → SeatData → SeatData → List Counted
turn_steps c reg seen word before now = counted (ClaimStore c (seen / 2)) (seen / 2 + 1) (length before.view.seen) ∷ counted (Recheck c reg seen) word (length now.view.seen) ∷ []

pub record TurnedOnce (c reg seen word : ℕ) (before now : SeatData) : Type 0 where
  pub goes : Goes reg (Some (length before.view.seen)) (turn_steps c reg seen word before now) before now
  pub stays : Stays c before now
  pub found : HasFound reg word now.view

-- the same node was found, and the claim stands; or another one, and then the history has an entry on the register since
abbrev pub HasTurned : ℕ → ℕ → ℕ → Rechecked → SeatData → SeatData → Type 0
HasTurned c reg seen (Same word) before now = TurnedOnce c reg seen word before now × (lost_steps (turn_steps c reg seen word before now) ≡ 0) × HasClaim c reg word now
HasTurned c reg seen (Other word) before now = TurnedOnce c reg seen word before now × (lost_steps (turn_steps c reg seen word before now) ≡ 1)
    × (¬ NoneOn now.view.plan reg (drop (length before.view.seen) now.view.seen))

-- some turns, of which the first begins with a look, and after which so many claims serve
pub record HasSeen (c reg word claims : ℕ) (before now : SeatData) : Type 0 where
  pub steps : List Counted
  pub look : ℕ
  pub goes : (found : Option ℕ) → Goes reg found steps before now
  pub looked : IsLooked reg steps look before now
  pub looks : AreLooks steps
  pub paced : Paces 0 claims steps
  pub none_filled : node_stores steps ≡ 0
  pub stored : 0 < claims → 0 < claim_stores steps
  pub stays : Stays c before now
  pub found : HasFound reg word now.view

-- the node that the register's cell names is claimed
abbrev pub HasClaimed : ℕ → ℕ → ℕ → SeatData → SeatData → Type 0
HasClaimed c reg word before now = HasSeen c reg word 1 before now × HasClaim c reg word now

-- and its record, which is the register's at the end of what is seen, was read
abbrev pub HasClaimedRecord : ℕ → ℕ → ℕ → List ℕ → SeatData → SeatData → Type 0
HasClaimedRecord c reg word rec before now = HasClaimed c reg word before now × (register_at now.view (length now.view.seen) reg ≡ rec)

-- the cell's version was found before the node was claimed
abbrev pub HasStarted : ℕ → ℕ → ℕ → SeatData → SeatData → Type 0
HasStarted reg version word before now = (h : HasClaimed BACK reg word before now) × HasTurn reg version word h.0.steps

-- and its record was read
abbrev pub HasStartedRecord : ℕ → ℕ → ℕ → List ℕ → SeatData → SeatData → Type 0
HasStartedRecord reg version word rec before now = (h : HasClaimedRecord BACK reg word rec before now) × HasTurn reg version word h.0.0.steps

-- one look and one turn
abbrev pub HasTried : ℕ → ℕ → Rechecked → SeatData → SeatData → Type 0
HasTried c reg (Same word) before now = (s : HasSeen c reg word 1 before now) × (length s.steps ≡ 3) × (lost_steps s.steps ≡ 0) × HasClaim c reg word now
    × FoundWord reg word s.steps
HasTried c reg (Other word) before now = (s : HasSeen c reg word 0 before now) × (length s.steps ≡ 3) × (lost_steps s.steps ≤ 1) × (¬ NoneOn now.view.plan reg (drop s.look now.view.seen))

-- a node's record was read
pub record HasRead (node : ℕ) (rec : List ℕ) (before now : SeatData) : Type 0 where
  pub words : List ℕ
  pub read : IsRead node words before now
  pub is : rec ≡ take WIDTH words

-- a call on a register in progress, since its seat was `before`
pub record Calling (reg : ℕ) (steps : List Counted) (look : ℕ) (before now : SeatData) : Type 0 where
  pub goes : Goes reg None steps before now
  pub looked : IsLooked reg steps look before now
  pub hold : claim_of HOLD now.view ≡ claim_of HOLD before.view

-- it began with a seat that was ready, and may change the register
pub record Began (shared : ObjectData) (reg : ℕ) (before : SeatData) : Type 0 where
  pub ready : IsReady shared before
  pub there : reg < shared.plan.registers
  pub left : 0 < before.view.changes

-- a node is free; where none was, the seat scanned
pub record HasRoom (room : Bool) (before now : SeatData) : Type 0 where
  pub some_free : room ≡ true → 0 < length now.free
  pub none_free : room ≡ false → now.free ≡ []
  pub made : ((0 < length before.free) × (now ≡ before)) ⊎ ((before.free ≡ []) × IsScan before now)

-- the seat took a free node, filled it with the record, and holds it
pub record HoldsFilled (node : ℕ) (rec : List ℕ) (before now : SeatData) : Type 0 where
  pub steps : List Counted
  pub goes : (k : ℕ) → Goes k (Some (length before.view.seen)) steps before now
  pub looks : AreLooks steps
  pub none_lost : lost_steps steps ≡ 0
  pub none_claimed : claim_rounds steps ≡ 0
  pub few : length steps ≤ WIDTH + 2
  pub free : IsWithout node before.free now.free
  pub holding : now.holding ≡ before.holding ++ node ∷ []
  pub own : has (nodes_of now.view.own) node ≡ true
  pub words : words_in now.view.own node ≡ rec ++ 0 ∷ []
  pub view : now.view ≡ record before.view { own = now.view.own; trail = now.view.trail }
  pub noted : now.noted ≡ before.noted

-- a held node has the record: the one kept, or one that was free, after a scan where none was; or none is free
abbrev pub HasReady : Option ℕ → Option ℕ → List ℕ → SeatData → SeatData → Type 0
HasReady (Some kept) node rec before now = (node ≡ Some kept) × (now ≡ before)
HasReady None (Some node) rec before now = (room : SeatData) × HasRoom true before room × IsSeat room × HoldsFilled node rec room now
HasReady None None rec before now = HasRoom false before now

-- the exchange found the same node with another mark once, or wasn't tried yet
pub record HasRetried (reg : ℕ) (tries : List Counted) (before mid : SeatData) : Type 0 where
  pub goes : Goes reg (Some (length before.view.seen)) tries before mid
  pub none_lost : lost_steps tries ≡ 0
  pub none_claimed : claim_rounds tries ≡ 0
  pub none_scanned : scan_loads tries ≡ 0
  pub none_filled : node_stores tries ≡ 0
  pub few : length tries ≤ 1
  pub view : mid.view ≡ record before.view { seen = mid.view.seen; look = mid.view.look; trail = mid.view.trail }
  pub same : mid ≡ record before { view = mid.view; fresh = mid.fresh }

-- the exchange won, at the first try or from the word that the first try found
pub record HasWon (reg word node : ℕ) (call : Call) (before after : SeatData) : Type 0 where
  pub tries : List Counted
  pub mid : SeatData
  pub found : ℕ
  pub retried : HasRetried reg tries before mid
  pub near : found / 2 ≡ word / 2
  pub won : Won reg found node call mid after
  pub sound : Sound after.view

-- the exchange found a word with another node: since it was tried the history has an entry on the cell
pub record HasLost (reg word other : ℕ) (before now : SeatData) : Type 0 where
  pub tries : List Counted
  pub goes : Goes reg (Some (length before.view.seen)) tries before now
  pub one_lost : lost_steps tries ≤ 1
  pub paced : Paces 1 0 tries
  pub some_tried : 0 < exchanges tries
  pub none_scanned : scan_loads tries ≡ 0
  pub none_filled : node_stores tries ≡ 0
  pub few : length tries ≤ 2
  pub view : now.view ≡ record before.view { seen = now.view.seen; look = now.view.look; trail = now.view.trail }
  pub same : now ≡ stepped now.view before
  pub changed : ¬ NoneOn now.view.plan reg (drop (length before.view.seen) now.view.seen)
  pub found : HasFound reg other now.view
  pub far : other / 2 ≢ word / 2

-- the first place from q on, and at most n further, at which the register isn't old
abbrev pub first_unlike : ℕ → List ℕ → List Entry → ℕ → ℕ → ℕ
first_unlike reg old seen q zero = q
first_unlike reg old seen q (suc n) = if is_same ((state_at seen q).registers reg) old then first_unlike reg old seen (suc q) n else q

-- the first place from `from` on at which the register isn't the record that the call takes for the old one
abbrev pub refused_at : ℕ → Call → View → ℕ
refused_at from (Swap reg old new) v = first_unlike reg old v.seen from (length v.seen - from)
refused_at from _ v = from

-- where the look at the cell was that the last three steps began with
abbrev pub tried_at : ℕ → View → ℕ
tried_at reg v = unwrap_or (first_look reg (drop (length v.trail - 3) v.trail)) 0
