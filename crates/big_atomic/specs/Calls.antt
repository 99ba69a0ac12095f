-- What the calls on registers promise.
use Rattle.std.specs.Prelude.{◌≡◌, ◌≢◌, ℕ, ◌+◌, ◌*◌, ◌<◌, ◌≤◌, ◌⊎◌, Bool, true, false, List, [], ◌∷◌, ◌++◌, None, length, filter, take, drop}
use Rattle.big_atomic.specs.Marks.{IsRefreshed}
use Rattle.big_atomic.specs.Reads.{ClaimsAreCaused, IsInlineRead, ReadFailed}
use Rattle.big_atomic.specs.Turns.{TurnsArePaid, changes_on, claim_rounds, claim_stores, exchanges, lost_steps, node_stores, scan_loads}
use Rattle.big_atomic.specs.declared.answers.Stored.{Stored}
use Rattle.big_atomic.specs.declared.answers.Stored.TheVariants.{Done as StoreDone, Full as StoreFull}
use Rattle.big_atomic.specs.declared.answers.Swap.{Swap as Answer}
use Rattle.big_atomic.specs.declared.answers.Swap.TheVariants.{Yes as SwapYes, No as SwapNo, Full as SwapFull}
use Rattle.hazard_claims.specs.Scanning.{names}
use Rattle.node_pool.specs.Pool.{load_steps}
use Rattle.seat_history.specs.History.{state_at}
use Rattle.seat_history.specs.declared.call.Call.{Call}
use Rattle.seat_history.specs.declared.call.Call.TheVariants.{Load, Store, Swap, Hold, Look, Release}
use Rattle.seat_history.specs.declared.reply.Reply.{Reply}
use Rattle.seat_history.specs.declared.reply.Reply.TheVariants.{Words, Done, Yes, No, Full}
use Rattle.seat_history.specs.declared.words.TheConstants.{WIDTH}
use Rattle.step_rules.specs.Claims.{HOLD}
use Rattle.step_rules.specs.Lawful.{held_by, is_full}
use Rattle.step_rules.specs.SeatData.{IsHolding, SeatData, holds_record}
use Rattle.step_rules.specs.Steps.{HasScanned}
use Rattle.step_rules.specs.Stock.{stand_cost, stand_gain}
use Rattle.step_rules.specs.Stood.{Stood, StoodStill}
use Rattle.step_rules.specs.Views.{claim_of, counted, number, stock}
use Rattle.step_rules.specs.declared.layout.TheConstants.{NODE_WIDTH}
use Rattle.step_rules.specs.declared.view.Counted.{Counted}
use Rattle.step_rules.specs.declared.view.Kind.TheVariants.{ClaimClear}
use Rattle.step_rules.specs.declared.view.Stand.{Stand}
use Rattle.step_rules.specs.declared.view.View.{View}

-- no node is lost, and the seat is what it was otherwise
pub record NodesStay (before after : SeatData) : Type 0 where
  pub object : after.object ≡ before.object
  pub first : after.first ≡ before.first
  pub nodes : length after.free + length after.view.retired ≡ length before.free + length before.view.retired

-- the seat is of the same object, and its nodes are those that it had, less what the stand cost and with what it gave
pub record NodesBalance (stand : Stand) (before after : SeatData) : Type 0 where
  pub object : after.object ≡ before.object
  pub first : after.first ≡ before.first
  pub even : length after.free + length after.view.retired + stand_cost after.view.plan after.view.seen stand
      ≡ length before.free + length before.view.retired + stand_gain after.view.plan after.view.seen stand

-- the seat's Hold claim and its held record stay
pub record HoldStays (before after : SeatData) : Type 0 where
  pub claim : claim_of HOLD after.view ≡ claim_of HOLD before.view
  pub held : held_by after.view.seen (number after.view) after.view.stands ≡ held_by before.view.seen (number before.view) before.view.stands

-- a call on the cell k was answered: one stand was added, no node was lost but for what the stand cost, and each turn but the first has another
-- caller's change of the cell
pub record Answered (k : ℕ) (asked : Call) (told : Reply) (before after : SeatData) : Type 0 where
  pub stand : Stand
  pub steps : List Counted
  pub stood : Stood asked told stand steps before.view after.view
  pub nodes : NodesBalance stand before after
  pub paid : TurnsArePaid before.view.plan k (number before.view) after.view.seen None steps
  -- so there are at most as many lost steps as such changes since the call's first look
  pub few : lost_steps steps ≤ changes_on before.view.plan k (number before.view) (drop stood.look after.view.seen)
  -- and a further claim of the cell's node, and further exchanges, were made only after a lost step
  pub rounds : claim_rounds steps ≤ lost_steps steps + 1
  pub tries : exchanges steps ≤ 2 * (lost_steps steps + 1)
  -- a change tried to clear the mark that it left on its cell
  pub refreshed : stand.changes ≡ true → IsRefreshed k steps

-- Full was answered: after a whole scan of this call fewer nodes are free than are needed. Retired are just those that were and that a word
-- found names, and the stand keeps how many the seat had
pub record IsFullAnswer (need free : ℕ) (steps : List Counted) (before after : SeatData) : Type 0 where
  pub free_now : free ≡ length after.free
  pub few : free < need
  pub scan : HasScanned after.view steps
  pub retired : after.view.retired ≡ filter (λ n. names n scan.loads) before.view.retired
  pub few_retired : length after.view.retired ≤ 4 * before.view.plan.seats

-- a scan was made once at most, and only where fewer nodes were free than were needed: then an exchange was tried, or the answer is Full
abbrev pub ScansForWant : ℕ → Reply → List Counted → SeatData → Type 0
ScansForWant need told steps before =
    (scan_loads steps ≡ 0) ⊎ ((scan_loads steps ≡ 4 * before.view.plan.seats) × (length before.free < need) × ((is_full told ≡ true) ⊎ (0 < exchanges steps)))

-- no node changed hands, no exchange was tried, and no scan was made
pub record IsQuiet (steps : List Counted) (before after : SeatData) : Type 0 where
  pub free : after.free ≡ before.free
  pub retired : after.view.retired ≡ before.view.retired
  pub none_exchanged : exchanges steps ≡ 0
  pub none_scanned : scan_loads steps ≡ 0

-- the register's words at a place, as the seat has seen the history
abbrev pub register_at : View → ℕ → ℕ → List ℕ
register_at v place reg = (state_at v.seen place).registers reg

-- a load was answered
pub record IsLoaded (reg : ℕ) (words : List ℕ) (before after : SeatData) : Type 0 where
  pub answered : Answered reg (Load reg) (Words words) before after
  pub nodes : NodesStay before after
  pub there : register_at after.view answered.stand.place reg ≡ words
  pub quiet : IsQuiet answered.steps before after
  pub hold : HoldStays before after
  -- a claim is stored only where a read of the register's inline words had failed in this call
  pub caused : ClaimsAreCaused (ReadFailed reg) answered.steps
  -- a load that stores none is one such read, whose record is the answer; it stands where the read found the backup unmarked
  pub inline : claim_stores answered.steps ≡ 0 → (ws : List ℕ) × IsInlineRead reg ws answered.stand.place answered.steps × (words ≡ take WIDTH ws)
  -- in all one failed read of WIDTH + 4 steps at most, one look, two steps for each turn, the WIDTH + 1 words of the claimed node, and the claim's end
  pub bound : length answered.steps ≤ 2 * WIDTH + 9 + 2 * lost_steps answered.steps

-- what a store's answer says of its stand
abbrev pub store_reply : Stored → Reply
store_reply StoreDone = Done
store_reply (StoreFull need free) = Full need free

-- a store was answered
pub record IsStored (reg : ℕ) (new : List ℕ) (answer : Stored) (before after : SeatData) : Type 0 where
  pub answered : Answered reg (Store reg new) (store_reply answer) before after
  pub nodes : NodesStay before after
  pub hold : HoldStays before after
  pub scans : ScansForWant 1 (store_reply answer) answered.steps before
  pub full : (need free : ℕ) → answer ≡ StoreFull need free → IsFullAnswer need free answered.steps before after
  -- a seat that has more nodes than there are claim words is never short of one
  pub enough : 4 * before.view.plan.seats < stock before.view → answer ≡ StoreDone
  -- whatever turns are lost, one node at most is taken, by one store, and its WIDTH + 1 words are filled once
  pub filled : node_stores answered.steps ≤ WIDTH + 2

-- what a compare-and-swap's answer says of its stand
abbrev pub swap_reply : Answer → Reply
swap_reply SwapYes = Yes
swap_reply SwapNo = No
swap_reply (SwapFull need free) = Full need free

-- the answer is Yes
abbrev pub says_yes : Answer → Bool
says_yes SwapYes = true
says_yes _ = false

-- the first place, from a look on, at which the register isn't old
pub record IsFirstUnlike (reg : ℕ) (old : List ℕ) (look place : ℕ) (w : View) : Type 0 where
  pub unlike : register_at w place reg ≢ old
  pub before : (q : ℕ) → look ≤ q → q < place → register_at w q reg ≡ old

-- a compare-and-swap was answered
pub record IsSwapped (reg : ℕ) (old new : List ℕ) (answer : Answer) (before after : SeatData) : Type 0 where
  pub answered : Answered reg (Swap reg old new) (swap_reply answer) before after
  pub nodes : NodesStay before after
  pub hold : HoldStays before after
  pub scans : ScansForWant 1 (swap_reply answer) answered.steps before
  -- No stands at the first unlike place from the call's first look on
  pub no : answer ≡ SwapNo → IsFirstUnlike reg old answered.stood.look answered.stand.place after.view
  pub full : (need free : ℕ) → answer ≡ SwapFull need free → IsFullAnswer need free answered.steps before after
  pub enough : 4 * before.view.plan.seats < stock before.view → (need free : ℕ) → answer ≢ SwapFull need free
  -- no further turn, two tries of the exchange at most, none where the two records are the same, and a constant number of counted steps
  pub one_lost : lost_steps answered.steps ≤ 1
  pub twice : exchanges answered.steps ≤ 2
  pub same : old ≡ new → exchanges answered.steps ≡ 0
  pub bound : length answered.steps ≤ 3 * NODE_WIDTH + 4 * before.view.plan.seats + 16
  -- of these one stores to take a node and WIDTH + 1 to fill it, whichever try of the exchange it is for
  pub filled : node_stores answered.steps ≤ WIDTH + 2

-- the register's record of the stand's place is held
pub record IsHeld (reg : ℕ) (before after : SeatData) : Type 0 where
  pub answered : Answered reg (Hold reg) Done before after
  pub nodes : NodesStay before after
  pub holds : IsHolding (register_at after.view answered.stand.place reg) after.view
  pub quiet : IsQuiet answered.steps before after
  -- one look, two steps for each turn, and the words of the claimed node
  pub bound : length answered.steps ≤ WIDTH + 4 + 2 * lost_steps answered.steps

-- a look at the held record was answered with it, whatever was stored since; it loads the words of the record's node, and no node changed hands
pub record IsLooked (words : List ℕ) (before after : SeatData) : Type 0 where
  pub stand : Stand
  pub stood : (held : IsHolding words before.view) × StoodStill Look (Words words) stand (load_steps held.node 0 (words ++ 0 ∷ []) (length before.view.seen)) before.view after.view
  pub nodes : NodesStay before after
  pub free : after.free ≡ before.free
  pub retired : after.view.retired ≡ before.view.retired
  pub hold : HoldStays before after

-- nothing is held any more; one claim word was cleared, and no node changed hands
pub record IsReleased (before after : SeatData) : Type 0 where
  pub stand : Stand
  pub stood : StoodStill Release Done stand (counted (ClaimClear HOLD) 0 (length before.view.seen) ∷ []) before.view after.view
  pub nodes : NodesStay before after
  pub free : after.free ≡ before.free
  pub retired : after.view.retired ≡ before.view.retired
  pub none_held : holds_record after.view ≡ false
