-- What a call that stands leaves of its seat's view.
use Rattle.std.specs.Prelude.{◌≡◌, ℕ, ◌+◌, ◌*◌, ◌≤◌, List, [], ◌∷◌, ◌++◌, Some, length, if◌then◌else◌}
use Rattle.seat_history.specs.declared.call.Call.{Call}
use Rattle.seat_history.specs.declared.reply.Reply.{Reply}
use Rattle.step_rules.specs.History.{GoesOn, IsHistory, cell_of}
use Rattle.step_rules.specs.Kinds.Standing.{first_look}
use Rattle.step_rules.specs.Lawful.{IsRight, Lawful}
use Rattle.step_rules.specs.Stock.{stand_removes}
use Rattle.step_rules.specs.Views.{number, stock}
use Rattle.step_rules.specs.declared.view.Counted.{Counted}
use Rattle.step_rules.specs.declared.view.Stand.{Stand}
use Rattle.step_rules.specs.declared.view.View.{View}

-- how many changes a stand spends
abbrev pub spent : Stand → ℕ
spent s = if s.changes then 1 else 0

-- the call was answered: its seat made these steps, and has one stand more
pub record Stood (asked : Call) (told : Reply) (stand : Stand) (steps : List Counted) (v w : View) : Type 0 where
  pub stands : w.stands ≡ v.stands ++ stand ∷ []
  pub by : stand.by ≡ number v
  pub call : stand.call ≡ asked
  pub reply : stand.reply ≡ told
  -- the numbers and the stock that it keeps are the seat's when the call was made
  pub held : stand.numbers ≡ v.numbers
  pub stock : stand.stock ≡ stock v
  pub trail : w.trail ≡ v.trail ++ steps
  -- the place isn't before what was seen after the call's first look at its cell, and so not before what was seen before the call
  pub look : ℕ
  pub looked : first_look (cell_of v.plan asked) steps ≡ Some look
  pub from : length v.seen ≤ look
  pub after : look ≤ stand.place
  -- the stand is right, and so are all others, for what is seen now
  pub right : IsRight w.plan w.seen v.stands stand
  pub lawful : Lawful w.plan w.numbers w.seen w.stands
  pub history : IsHistory w.plan w.seen
  pub seen : GoesOn v.seen w.seen
  pub within : length w.seen ≤ w.plan.seats * w.plan.changes
  pub plan : w.plan ≡ v.plan
  pub numbers : w.numbers ≡ v.numbers
  -- one change is spent exactly where the stand changes, and one remove where it takes a key out
  pub changes : w.changes + spent stand ≡ v.changes
  pub removes : w.removes + stand_removes stand ≡ v.removes

-- a look at the held record, or its release, was answered: no cell is looked at
pub record StoodStill (asked : Call) (told : Reply) (stand : Stand) (steps : List Counted) (v w : View) : Type 0 where
  pub stands : w.stands ≡ v.stands ++ stand ∷ []
  pub by : stand.by ≡ number v
  pub call : stand.call ≡ asked
  pub reply : stand.reply ≡ told
  -- the numbers and the stock that it keeps are the seat's when the call was made
  pub held : stand.numbers ≡ v.numbers
  pub stock : stand.stock ≡ stock v
  pub trail : w.trail ≡ v.trail ++ steps
  pub from : length v.seen ≤ stand.place
  pub right : IsRight w.plan w.seen v.stands stand
  pub lawful : Lawful w.plan w.numbers w.seen w.stands
  pub seen : GoesOn v.seen w.seen
  pub plan : w.plan ≡ v.plan
  pub numbers : w.numbers ≡ v.numbers
  pub changes : w.changes ≡ v.changes
  pub removes : w.removes ≡ v.removes
