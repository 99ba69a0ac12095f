-- A script on the shared object: what comes of it, and what the closed object has of it.
use Rattle.std.specs.Prelude.{◌≡◌, ℕ, ◌<◌, All, Bool, false, List, [], ◌∷◌, ◌++◌, map, if◌then◌else◌}
use Rattle.call_script.specs.Holding.{calls_by, holds_from}
use Rattle.call_script.specs.Row.{EndsAs, made_of, row_of}
use Rattle.call_script.specs.Run.{IsOrderOf, Made, RunsIn, made_in, made_lines, own_lines}
use Rattle.call_script.specs.declared.driven.Driven.{Driven}
use Rattle.seat_history.specs.declared.call.Call.TheVariants.{Release}
use Rattle.seat_history.specs.declared.entry.Entry.{Entry}
use Rattle.seat_history.specs.declared.reply.Reply.TheVariants.{Done}
use Rattle.step_rules.specs.Closing.{ClosedData}
use Rattle.step_rules.specs.Line.{stands_by}
use Rattle.step_rules.specs.declared.plan.Plan.{Plan}
use Rattle.step_rules.specs.declared.view.Stand.{Stand}
use Rattle.tally_core.specs.Adding.{IsClosedWhole}

-- whether a caller's lines leave a record held
abbrev pub leaves : List Entry → ℕ → Bool
leaves lines x = holds_from false (calls_by x lines)

-- the release with which a caller ends whose lines leave a record held
abbrev pub last_release : List Entry → ℕ → List Made
last_release lines x = if leaves lines x then record { line = record { caller = x; call = Release }; reply = Done } ∷ [] else []

-- the lines were called on an object of the plan, which was closed then
pub record HasDriven (p : Plan) (lines : List Entry) (driven : Driven) (closed : ClosedData) : Type 0 where
  pub plan_is : closed.plan ≡ p
  pub closed_is : IsClosedWhole closed
  -- each stand is of a caller of the plan
  pub callers : All (λ (s : Stand). s.by < p.seats) closed.stands
  -- a caller's stands are its lines with their replies, in order, and then one release where its lines leave a record held
  pub called : (x : ℕ) → x < p.seats → map made_of (stands_by x closed.stands) ≡ own_lines x (made_lines lines driven.replies) ++ last_release lines x
  -- the closed object's line without these releases is the order of a run
  pub order : List ℕ
  pub is_order : IsOrderOf lines order
  pub in_line : made_in lines driven.replies order ≡ row_of (leaves lines) closed
  pub runs : RunsIn p order lines driven
  -- nothing is retired, and all that is answered is the closed object's
  pub none_retired : closed.retired ≡ []
  pub contents : EndsAs closed driven
