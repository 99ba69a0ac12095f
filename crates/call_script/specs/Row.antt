-- The line of a closed object as a row of lines with their replies.
use Rattle.std.specs.Prelude.{◌≡◌, ℕ, ◌<◌, ◌&&◌, All, Bool, true, false, List, [], ◌∷◌, ◌++◌, length, map, if◌then◌else◌}
use Rattle.std.specs.List.{range_with_len}
use Rattle.seat_history.specs.History.{state_at}
use Rattle.seat_history.specs.Pairs.{ArePairsOf, IsPairInRange}
use Rattle.seat_history.specs.declared.call.Call.TheVariants.{Release}
use Rattle.seat_history.specs.declared.entry.Entry.{Entry}
use Rattle.seat_history.specs.declared.reply.Reply.{Reply}
use Rattle.step_rules.specs.Closing.{ClosedData, live_nodes}
use Rattle.step_rules.specs.Lawful.{entry_of}
use Rattle.step_rules.specs.Line.{line_of, stands_by}
use Rattle.step_rules.specs.Stock.{AreOfOne}
use Rattle.step_rules.specs.declared.view.Stand.{Stand}
use Rattle.call_script.specs.Run.{Made, made_lines, own_lines}
use Rattle.call_script.specs.declared.driven.Driven.{Driven}

-- a stand as a line with its reply
abbrev pub made_of : Stand → Made
made_of s = record { line = entry_of s; reply = s.reply }

-- whether there is none
abbrev pub is_none_of : List Stand → Bool
is_none_of [] = true
is_none_of (s ∷ r) = false

-- the stands without the last one of each caller that leaves a record held
abbrev pub without_last : (ℕ → Bool) → List Stand → List Stand
without_last leaves [] = []
without_last leaves (s ∷ later) =
    if leaves s.by && is_none_of (stands_by s.by later) then without_last leaves later else s ∷ without_last leaves later

-- all of a caller's stands are these, and then one Release where it leaves a record held
abbrev pub AreOwn : Bool → List Stand → List Stand → Type 0
AreOwn false own stands = stands ≡ own
AreOwn true own stands = (last : Stand) × (last.call ≡ Release) × (stands ≡ own ++ last ∷ [])

-- the closed object's line as a row of lines, without the last release of each caller that leaves a record held
abbrev pub row_of : (ℕ → Bool) → ClosedData → List Made
row_of leaves closed = map made_of (without_last leaves (line_of closed.plan.seats closed.history closed.stands))

-- on the closed object each caller made just its lines, with these replies and by a seat of its own, and at the end released the record that they
-- leave held
pub record HasCalled (closed : ClosedData) (leaves : ℕ → Bool) (own : ℕ → List Stand) (lines : List Entry) (replies : List Reply) : Type 0 where
  pub each_replied : length replies ≡ length lines
  pub stands : (x : ℕ) → x < closed.plan.seats → AreOwn (leaves x) (own x) (stands_by x closed.stands)
  pub made : (x : ℕ) → x < closed.plan.seats → map made_of (own x) ≡ own_lines x (made_lines lines replies)
  pub alone : (x : ℕ) → x < closed.plan.seats → AreOfOne x (stands_by x closed.stands)

-- the registers, the pairs and the nodes are the closed object's
pub record EndsAs (closed : ClosedData) (driven : Driven) : Type 0 where
  pub registers : driven.registers ≡ map (state_at closed.history (length closed.history)).registers (range_with_len 0 16)
  pub pairs : ArePairsOf (state_at closed.history (length closed.history)).values driven.pairs
  pub in_range : All IsPairInRange driven.pairs
  pub counts : driven.counts ≡ record { free = length closed.free; live = live_nodes closed.plan closed.history; retired = length closed.retired }
