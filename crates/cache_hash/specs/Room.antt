-- Plans and seats whose changes are never short of nodes.
use Rattle.std.specs.Prelude.{◌≡◌, ◌≢◌, ℕ, ◌+◌, ◌*◌, ◌≤◌, false}
use Rattle.big_atomic.specs.Ready.{IsReady}
use Rattle.big_atomic.specs.Seats.{Stays}
use Rattle.cache_hash.specs.declared.answers.Update.{Update as UpdateAnswer}
use Rattle.cache_hash.specs.declared.answers.Update.TheVariants.{Full as UpdateFull}
use Rattle.seat_history.specs.declared.reply.Reply.{Reply}
use Rattle.seat_history.specs.declared.reply.Reply.TheVariants.{Full}
use Rattle.step_rules.specs.SeatData.{ObjectData, SeatData, holds_record}
use Rattle.step_rules.specs.Views.{stock}
use Rattle.step_rules.specs.declared.plan.Plan.{Plan}

-- a share has a node for each change of its number, for each claim word, and for a chain of all the keys that all seats may put in, and two
abbrev pub HasRoom : Plan → Type 0
HasRoom p = p.changes + 4 * p.seats + p.seats * p.changes + 2 ≤ p.share

-- each change that the seat made cost it a node at most
abbrev pub HasNodesLeft : ObjectData → SeatData → Type 0
HasNodesLeft shared seat = shared.plan.share + seat.view.changes ≤ stock seat.view + shared.plan.changes

-- the reply isn't Full
abbrev pub IsNotFull : Reply → Type 0
IsNotFull reply = (need free : ℕ) → reply ≢ Full need free

-- a seat with which no call is Full: it is ready and holds no record, its plan has room, and it has its nodes
pub record IsNeverShort (shared : ObjectData) (seat : SeatData) : Type 0 where
  pub ready : IsReady shared seat
  pub none_held : holds_record seat.view ≡ false
  pub room : HasRoom shared.plan
  pub nodes : HasNodesLeft shared seat

-- a call on a key that isn't Full, spends a change at most, and leaves the seat such a one
pub record CallFits (shared : ObjectData) (reply : Reply) (before after : SeatData) : Type 0 where
  pub not_full : IsNotFull reply
  pub never_short : IsNeverShort shared after
  pub spends : before.view.changes ≤ after.view.changes + 1
  pub stays : Stays before after

-- an update that isn't Full, spends a change at most, and leaves the seat such a one
pub record Fits (shared : ObjectData) (answer : UpdateAnswer) (before after : SeatData) : Type 0 where
  pub not_full : (need free : ℕ) → answer ≢ UpdateFull need free
  pub never_short : IsNeverShort shared after
  pub spends : before.view.changes ≤ after.view.changes + 1
  pub stays : Stays before after
