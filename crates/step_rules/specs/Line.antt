-- All callers' stands in one line, and the object of one thread called in that order.
use Rattle.std.specs.Prelude.{◌≡◌, ℕ, ◌<◌, ◌==◌, ◌&&◌, not, false, zero, suc, List, [], ◌∷◌, ◌++◌, length, filter, take, ⊤, if◌then◌else◌}
use mathlib.Core.Option.{some}
use lib.ListN.{get_elem?}
use Rattle.seat_history.specs.Change.{is_change}
use Rattle.seat_history.specs.History.{state_at}
use Rattle.seat_history.specs.Object.{MayCall, NamesBelow, Object, blank_object, object_after, reply_in}
use Rattle.seat_history.specs.declared.entry.Entry.{Entry}
use Rattle.seat_history.specs.declared.plain.TheConstants.{CALLERS}
use Rattle.step_rules.specs.Lawful.{IsLegal, IsReply, entry_of, is_full}
use Rattle.step_rules.specs.Stock.{AreOfOne, KeepsStock, StocksAre}
use Rattle.step_rules.specs.declared.plan.Plan.{Plan}
use Rattle.step_rules.specs.declared.view.Stand.{Stand}

-- a caller's stands
abbrev pub stands_by : ℕ → List Stand → List Stand
stands_by x stands = filter (λ (s : Stand). s.by == x) stands

-- a caller's stands at a place that are no entries
abbrev pub readings : ℕ → ℕ → List Stand → List Stand
readings q x stands = filter (λ (s : Stand). not s.changes && ((s.by == x) && (s.place == q))) stands

-- those of the first n callers, by rising number
abbrev pub readings_below : ℕ → ℕ → List Stand → List Stand
readings_below q zero stands = []
readings_below q (suc n) stands = readings_below q n stands ++ readings q n stands

-- the stand that is the entry at a place
abbrev pub entry_at : ℕ → List Stand → List Stand
entry_at q stands = filter (λ (s : Stand). s.changes && (s.place == q)) stands

-- the stands before a place of the history, seats being the number of callers
abbrev pub line_before : ℕ → ℕ → List Stand → List Stand
line_before seats zero stands = []
line_before seats (suc q) stands = line_before seats q stands ++ (readings_below q seats stands ++ entry_at q stands)

-- the history with each stand that is no entry put before the entry at its place, or at the end
abbrev pub line_of : ℕ → List Entry → List Stand → List Stand
line_of seats history stands = line_before seats (length history) stands ++ readings_below (length history) seats stands

-- what a stand leaves: Full changes nothing
abbrev pub after_stand : Object → Stand → Object
after_stand object s = if is_full s.reply then object else object_after object (entry_of s)

abbrev pub after_stands : Object → List Stand → Object
after_stands object [] = object
after_stands object (s ∷ r) = after_stands (after_stand object s) r

-- the calls that changed the object, with the stand's where it changes it
abbrev pub log_after : List Entry → Object → Stand → List Entry
log_after log object s = if is_change object.contents s.call && not (is_full s.reply) then log ++ entry_of s ∷ [] else log

-- the stand's call may be made on the object of one thread, after these changes, and its reply is the object's, or Full where the call would
-- change it
pub record IsAnswered (p : Plan) (object : Object) (log : List Entry) (s : Stand) : Type 0 where
  pub legal : IsLegal p (object.held s.by) s.call
  pub reply : IsReply p s.stock object.contents log (object.held s.by) s.call s.reply

-- the object of one thread, called in this order, may be called so, and gives each stand its reply; the log has the calls that changed it
abbrev pub Replays : Plan → Object → List Entry → List Stand → Type 0
Replays p object log [] = ⊤
Replays p object log (s ∷ r) = IsAnswered p object log s × Replays p (after_stand object s) (log_after log object s) r

-- the object of one thread, with so many registers, can be called by the stand's caller, and its reply is the stand's, where that isn't Full
pub record CanBeCalled (registers : ℕ) (object : Object) (s : Stand) : Type 0 where
  pub caller : s.by < CALLERS
  pub register : NamesBelow registers s.call
  pub held : MayCall (object.held s.by) s.call
  pub reply : is_full s.reply ≡ false → reply_in object (entry_of s) ≡ s.reply

-- it can at each of these stands in turn
abbrev pub CanBeCalledAlong : ℕ → Object → List Stand → Type 0
CanBeCalledAlong registers object [] = ⊤
CanBeCalledAlong registers object (s ∷ r) = CanBeCalled registers object s × CanBeCalledAlong registers (after_stand object s) r

-- the line is one legal history of the object of one thread; it has each caller's stands, each once, in the caller's order, and leaves what the
-- history leaves
pub record InOneLine (p : Plan) (history : List Entry) (stands : List Stand) : Type 0 where
  pub replays : Replays p blank_object [] (line_of p.seats history stands)
  pub order : (x : ℕ) → x < p.seats → stands_by x (line_of p.seats history stands) ≡ stands_by x stands
  pub contents : (after_stands blank_object (line_of p.seats history stands)).contents ≡ state_at history (length history)
  -- the nodes beside each stand are its seat's, and so those of one number where the seat held no other
  pub kept : (i : ℕ) (s : Stand) → get_elem? stands i ≡ some s → KeepsStock p history (take i stands) s
  pub stocks : (x : ℕ) → x < p.seats → AreOfOne x (stands_by x (line_of p.seats history stands)) → StocksAre p history (stands_by x (line_of p.seats history stands))
