-- A call that gives a register a record: what it began with, and what is known at each stage of it.
use Rattle.std.specs.Prelude.{◌≡◌, ℕ, ◌*◌, ◌+◌, ◌<◌, ◌≤◌, Bool, true, false, not, List, [], ◌∷◌, ◌++◌, Option, Some, None, length, drop, ◌⊎◌}
use Rattle.big_atomic.specs.Calling.{AreLooks, Began, Calling, Costs, HasClaim, Paces}
use Rattle.big_atomic.specs.Calls.{Answered, HoldStays, IsFullAnswer, ScansForWant, register_at}
use Rattle.big_atomic.specs.Marks.{HasTurn}
use Rattle.big_atomic.specs.Ready.{IsReady}
use Rattle.big_atomic.specs.Turns.{exchanges, node_stores, scan_loads}
use Rattle.big_atomic.specs.declared.answers.Given.{Given as Answer}
use Rattle.big_atomic.specs.declared.answers.Given.TheVariants.{Done as GivenDone, Full as GivenFull, Moved as GivenMoved}
use Rattle.seat_history.specs.Change.{is_change}
use Rattle.seat_history.specs.Contents.{Contents}
use Rattle.seat_history.specs.Object.{MayCall}
use Rattle.seat_history.specs.Step.{held_after, is_same, reply_to}
use Rattle.seat_history.specs.declared.call.Call.{Call}
use Rattle.seat_history.specs.declared.entry.Entry.{Entry}
use Rattle.seat_history.specs.declared.reply.Reply.{Reply}
use Rattle.seat_history.specs.declared.reply.Reply.TheVariants.{Full}
use Rattle.seat_history.specs.declared.words.TheConstants.{WIDTH}
use Rattle.step_rules.specs.Claims.{BACK, OWN, WALK}
use Rattle.step_rules.specs.History.{IsThere, IsWide, NoneOn, cell_of}
use Rattle.step_rules.specs.Lawful.{IsReply}
use Rattle.step_rules.specs.Records.{edit_of, is_change_in, removes_of, set}
use Rattle.step_rules.specs.SeatData.{IsSeat, ObjectData, SeatData}
use Rattle.step_rules.specs.Views.{claim_of, stock, words_in}
use Rattle.step_rules.specs.declared.layout.TheConstants.{NODE_WIDTH}
use Rattle.step_rules.specs.declared.plan.Plan.{Plan}
use Rattle.step_rules.specs.declared.view.Counted.{Counted}
use Rattle.step_rules.specs.declared.view.View.{View}

-- the call gives the register reg the record new, and replies `done` where it does
pub record Gives (reg : ℕ) (new : List ℕ) (done : Reply) (call : Call) : Type 0 where
  pub on : (p : Plan) → cell_of p call ≡ reg
  pub inside : (p : Plan) → reg < p.registers → IsThere p call
  pub may : (held : Option (List ℕ)) → MayCall held call
  pub keeps : (c : Contents) (held : Option (List ℕ)) → held_after c held call ≡ held
  pub edits : (rs : List (List ℕ)) → edit_of rs call ≡ set 0 new
  pub changes : (c : Contents) → is_change_in (c.registers reg ∷ []) call ≡ is_change c call
  pub replies : (c : Contents) (held : Option (List ℕ)) → is_change c call ≡ true → reply_to c held call ≡ done
  pub wide : IsWide call
  pub long : length new ≡ WIDTH
  pub removes : removes_of call ≡ 0
  pub not_full : (need free : ℕ) → done ≡ Full need free → ⊥

-- where the register is rec, the call replies `done`, and changes it just where rec isn't new
pub record Agrees (reg : ℕ) (rec new : List ℕ) (done : Reply) (call : Call) : Type 0 where
  pub changes : (c : Contents) → c.registers reg ≡ rec → is_change c call ≡ not (is_same rec new)
  pub says : (p : Plan) (n : ℕ) (c : Contents) (log : List Entry) (held : Option (List ℕ)) → c.registers reg ≡ rec → IsReply p n c log held call done

-- such a call, the seat that it began with, where it looked at its register first, and whether it tries once
pub record Begun (shared : ObjectData) (reg : ℕ) (new : List ℕ) (done : Reply) (call : Call) : Type 0 where
  pub gives : Gives reg new done call
  pub before : SeatData
  pub began : Began shared reg before
  pub look : ℕ
  pub once : Bool

-- the call tries once, and its first look saw so much
pub record IsOnce {shared : ObjectData} {reg : ℕ} {new : List ℕ} {done : Reply} {call : Call} (look : ℕ) (b : Begun shared reg new done call) : Type 0 where
  pub look_is : b.look ≡ look
  pub once : b.once ≡ true

-- what it did so far: of its claims Back alone may stand beside Hold; one serves its turn. A scan was made only where no node was free, one
-- node at most was filled, and where it tries once it lost so many exchanges and made at most so many steps
pub record Past {shared : ObjectData} {reg : ℕ} {new : List ℕ} {done : Reply} {call : Call} (b : Begun shared reg new done call) (lost most : ℕ) (now : SeatData) : Type 0 where
  pub steps : List Counted
  pub calling : Calling reg steps b.look b.before now
  pub paced : Paces 0 1 steps
  pub scans : (scan_loads steps ≡ 0) ⊎ ((scan_loads steps ≡ 4 * b.before.view.plan.seats) × (length b.before.free < 1))
  pub walk : (claim_of WALK now.view).word ≡ 0
  pub own : (claim_of OWN now.view).word ≡ 0
  pub law : IsSeat now
  pub never : ((c : Contents) → is_change c call ≡ false) → exchanges steps ≡ 0
  pub filled : node_stores steps ≤ WIDTH + 2
  pub spent : b.once ≡ true → Costs lost (2 * lost) most steps

-- nothing but looks and loads was made, and the nodes are as many as the seat had
pub record OnlyLooked (steps : List Counted) (before now : SeatData) : Type 0 where
  pub looks : AreLooks steps
  pub nodes : length now.free + length now.holding ≡ length before.free
  pub retired : now.view.retired ≡ before.view.retired

-- a turn's first half: nothing but looks was made yet, or an exchange was tried, and a node is free or held
pub record AtTurn {shared : ObjectData} {reg : ℕ} {new : List ℕ} {done : Reply} {call : Call} (b : Begun shared reg new done call) (lost most : ℕ) (now : SeatData) : Type 0 where
  pub past : Past b lost most now
  pub turn : OnlyLooked past.steps b.before now ⊎ ((0 < exchanges past.steps) × (0 < length now.free + length now.holding))

-- the seat holds this node alone, which has the record
pub record HoldsNode (node : ℕ) (rec : List ℕ) (now : SeatData) : Type 0 where
  pub holding : now.holding ≡ node ∷ []
  pub words : words_in now.view.own node ≡ rec ++ 0 ∷ []

-- it holds the node that a lost turn left, or none
abbrev pub Carries : Option ℕ → List ℕ → SeatData → Type 0
Carries None rec now = now.holding ≡ []
Carries (Some node) rec now = HoldsNode node rec now

-- the version was found, and then the node of the word was claimed
pub record HasClaimedNode {shared : ObjectData} {reg : ℕ} {new : List ℕ} {done : Reply} {call : Call} (b : Begun shared reg new done call)
    (version word : ℕ) (now : SeatData) : Type 0 where
  pub at : AtTurn b 0 4 now
  pub idle : now.holding ≡ []
  pub unfilled : node_stores at.past.steps ≡ 0
  pub turn : HasTurn reg version word at.past.steps
  pub claim : HasClaim BACK reg word now

-- and has the record, by which the call is to be decided; a node may be kept from a lost turn, else none was filled yet
pub record HasDecided {shared : ObjectData} {reg : ℕ} {new : List ℕ} {done : Reply} {call : Call} (b : Begun shared reg new done call) (version word : ℕ)
    (rec : List ℕ) (kept : Option ℕ) (now : SeatData) : Type 0 where
  pub at : AtTurn b 0 (WIDTH + 5) now
  pub carried : Carries kept new now
  pub unfilled : kept ≡ None → node_stores at.past.steps ≡ 0
  pub turn : HasTurn reg version word at.past.steps
  pub claim : HasClaim BACK reg word now
  pub there : register_at now.view (length now.view.seen) reg ≡ rec
  pub agrees : Agrees reg rec new done call

-- its exchange was lost, and no claim serves any more: others changed the register since so much was seen, and its node is still held
pub record HasLostTurn {shared : ObjectData} {reg : ℕ} {new : List ℕ} {done : Reply} {call : Call} (b : Begun shared reg new done call) (seen node : ℕ) (now : SeatData) : Type 0 where
  pub at : AtTurn b 1 (2 * WIDTH + 13 + 4 * b.before.view.plan.seats) now
  pub carried : HoldsNode node new now
  pub tried : 0 < exchanges at.past.steps
  pub paced : Paces 0 0 at.past.steps
  pub changes : ((c : Contents) → is_change c call ≡ false) → ⊥
  pub late : b.look ≤ seen
  pub changed : ¬ NoneOn now.view.plan reg (drop seen now.view.seen)
  pub longer : seen < length now.view.seen

-- at some place from `from` on, the register isn't old
pub record IsUnlike (reg : ℕ) (old : List ℕ) (from : ℕ) (v : View) : Type 0 where
  pub place : ℕ
  pub late : from ≤ place
  pub within : place ≤ length v.seen
  pub unlike : is_same (register_at v place reg) old ≡ false

-- it is to be answered No: the register was another record than old at some place since its first look
pub record HasOther {shared : ObjectData} {reg : ℕ} {new : List ℕ} {done : Reply} {call : Call} (b : Begun shared reg new done call) (old : List ℕ) (now : SeatData) : Type 0 where
  pub at : AtTurn b 1 (2 * WIDTH + 13 + 4 * b.before.view.plan.seats) now
  pub idle : now.holding ≡ []
  pub unlike : IsUnlike reg old b.look now.view

-- it is answered so
pub record HasTold {shared : ObjectData} {reg : ℕ} {new : List ℕ} {done : Reply} {call : Call} (b : Begun shared reg new done call) (reply : Reply) (after : SeatData) : Type 0 where
  pub answered : Answered reg call reply b.before after
  pub look_is : answered.stood.look ≡ b.look
  pub hold : HoldStays b.before after
  pub ready : IsReady shared after
  pub scans : ScansForWant 1 reply answered.steps b.before
  pub full : (need free : ℕ) → reply ≡ Full need free → IsFullAnswer need free answered.steps b.before after × (stock b.before.view ≤ 4 * b.before.view.plan.seats)
  pub never : ((c : Contents) → is_change c call ≡ false) → exchanges answered.steps ≡ 0
  pub filled : node_stores answered.steps ≤ WIDTH + 2
  pub spent : b.once ≡ true → Costs 1 2 (3 * NODE_WIDTH + 4 * b.before.view.plan.seats + 16) answered.steps

-- how far a call has come
pub data Stage : Type 0 where
  Claimed : ℕ → ℕ → Stage
  Decided : ℕ → ℕ → List ℕ → Option ℕ → Stage
  Lost : ℕ → ℕ → Stage
  Unlike : List ℕ → Stage
  Told : Reply → Stage

-- what is known there
abbrev pub Knows : {shared : ObjectData} {reg : ℕ} {new : List ℕ} {done : Reply} {call : Call} → Begun shared reg new done call → Stage → SeatData → Type 0
Knows b (Claimed version word) now = HasClaimedNode b version word now
Knows b (Decided version word rec kept) now = HasDecided b version word rec kept now
Knows b (Lost seen node) now = HasLostTurn b seen node now
Knows b (Unlike old) now = HasOther b old now
Knows b (Told reply) now = HasTold b reply now

-- where a turn comes to that began with so much seen
abbrev pub stage_of : Reply → Answer → ℕ → Stage
stage_of reply GivenDone seen = Told reply
stage_of reply GivenFull seen = Told (Full 1 0)
stage_of reply (GivenMoved node) seen = Lost seen node
