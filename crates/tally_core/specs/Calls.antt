-- What any one call of a caller does.
use Rattle.std.specs.Prelude.{◌≡◌, ◌+◌, ◌<◌, ◌≤◌, [], ◌∷◌, ◌++◌}
use Rattle.big_atomic.specs.Ready.{IsReady}
use Rattle.seat_history.specs.declared.call.Call.{Call}
use Rattle.seat_history.specs.declared.reply.Reply.{Reply}
use Rattle.step_rules.specs.History.{GoesOn, IsThere}
use Rattle.step_rules.specs.Lawful.{entry_of}
use Rattle.step_rules.specs.Records.{removes_of}
use Rattle.step_rules.specs.SeatData.{ObjectData, SeatData, holds_record}
use Rattle.step_rules.specs.Views.{number, stock}
use Rattle.step_rules.specs.declared.view.Stand.{Stand}
use Rattle.call_script.specs.Holding.{MayTake, holds_after}

-- a seat may make the call: it has a change, and a remove for a Remove
pub record CanMake (shared : ObjectData) (call : Call) (seat : SeatData) : Type 0 where
  pub ready : IsReady shared seat
  pub there : IsThere shared.plan call
  pub may : MayTake (holds_record seat.view) call
  pub changes : 0 < seat.view.changes
  pub removes : removes_of call ≤ seat.view.removes

-- the call was answered: one stand was added, with this reply, and with the nodes that the seat had
pub record HasMade (shared : ObjectData) (call : Call) (reply : Reply) (before after : SeatData) : Type 0 where
  pub ready : IsReady shared after
  pub stand : Stand
  pub more : after.view.stands ≡ before.view.stands ++ stand ∷ []
  pub entry : entry_of stand ≡ record { caller = number before.view; call = call }
  pub reply_is : stand.reply ≡ reply
  pub stock_is : stand.stock ≡ stock before.view
  pub seen : GoesOn before.view.seen after.view.seen
  pub numbers : after.view.numbers ≡ before.view.numbers
  pub first : after.first ≡ before.first
  pub changes : before.view.changes ≤ after.view.changes + 1
  pub removes : before.view.removes ≤ after.view.removes + removes_of call
  pub holds : holds_record after.view ≡ holds_after (holds_record before.view) call
