-- What comes of a script's lines, called on the shared object: the object of one thread, called in one order of them, gives each line its
-- reply, but that a line may be answered Full where its caller's nodes don't do.
use Rattle.std.specs.Prelude.{◌≡◌, ℕ, ◌+◌, ◌==◌, ◌&&◌, not, All, Bool, false, List, [], ◌∷◌, ◌++◌, length, filter, map, slice_get, ⊤, if◌then◌else◌}
use Rattle.std.specs.List.{filter_map, range_with_len, sum_by}
use Rattle.std.specs.List.Sorted.{IsPermutation, IsStrictlyIncreasing}
use Rattle.std.specs.Option.{option_map_or}
use Rattle.seat_history.specs.Change.{is_change}
use Rattle.seat_history.specs.Contents.{set_at}
use Rattle.seat_history.specs.Object.{Object, blank_object, object_after, reply_in}
use Rattle.seat_history.specs.Pairs.{ArePairsOf, IsPairInRange}
use Rattle.seat_history.specs.declared.entry.Entry.{Entry}
use Rattle.seat_history.specs.declared.reply.Reply.{Reply}
use Rattle.seat_history.specs.declared.reply.Reply.TheVariants.{Full}
use Rattle.step_rules.specs.Closing.{live_nodes}
use Rattle.step_rules.specs.Lawful.{IsFull, is_full}
use Rattle.step_rules.specs.Layout.{nodes}
use Rattle.step_rules.specs.Records.{cost_at, gain_at, removes_of}
use Rattle.step_rules.specs.declared.plan.Plan.{Plan}
use Rattle.call_script.specs.declared.driven.Driven.{Driven}

-- the items at these places, one after the other
abbrev pub items_at : {X : Type 0} → List X → List ℕ → List X
items_at items places = filter_map (slice_get items) places

-- the line at this place is the caller's
abbrev pub is_line_of : List Entry → ℕ → ℕ → Bool
is_line_of lines caller place = option_map_or (λ (line : Entry). line.caller == caller) (slice_get lines place) false

-- an order of the lines, as their places: each once, and each caller's by rising place
pub record IsOrderOf (lines : List Entry) (order : List ℕ) : Type 0 where
  pub each_once : IsPermutation (range_with_len 0 (length lines)) order
  pub rising : (caller : ℕ) → IsStrictlyIncreasing (filter (is_line_of lines caller) order)

-- the words of the registers from 0 on
abbrev pub registers_in : Object → ℕ → List (List ℕ)
registers_in object count = map object.contents.registers (range_with_len 0 count)

-- the plan of an object for a script: a seat a caller, which may make each of the lines
abbrev pub plan_of : ℕ → List Entry → ℕ → ℕ → Plan
plan_of callers lines buckets share = record {
  seats = callers;
  share = share;
  registers = 16;
  buckets = buckets;
  changes = length lines;
  removes = sum_by (λ (line : Entry). removes_of line.call) lines;
}

-- a line with its reply
pub record Made : Type 0 where
  pub line : Entry
  pub reply : Reply

-- each line with its reply
abbrev pub made_lines : List Entry → List Reply → List Made
made_lines [] replies = []
made_lines (line ∷ lines) [] = []
made_lines (line ∷ lines) (reply ∷ replies) = record { line = line; reply = reply } ∷ made_lines lines replies

-- the caller's lines among them
abbrev pub own_lines : ℕ → List Made → List Made
own_lines caller line = filter (λ (made : Made). made.line.caller == caller) line

-- the lines at these places with their replies, one after the other
abbrev pub made_in : List Entry → List Reply → List ℕ → List Made
made_in lines replies order = items_at (made_lines lines replies) order

-- how far a script has come: the object of one thread, the lines that changed it, and how many nodes the changes of each caller cost it and
-- gave it
pub record Course : Type 0 where
  pub object : Object
  pub log : List Entry
  pub cost : ℕ → ℕ
  pub gain : ℕ → ℕ

-- at the beginning
abbrev pub begun : Course
begun = record { object = blank_object; log = []; cost = λ _. 0; gain = λ _. 0 }

-- the line changes the object: it would, and is not answered Full
abbrev pub makes_change : Course → Made → Bool
makes_change course made = is_change course.object.contents made.line.call && not (is_full made.reply)

-- the numbers of callers, and so many more under this one's
abbrev pub more_for : (ℕ → ℕ) → ℕ → ℕ → ℕ → ℕ
more_for numbers caller count = set_at numbers caller (numbers caller + count)

-- after one more line: Full leaves the object as it is, and a change is added to the log
abbrev pub course_after : Plan → Course → Made → Course
course_after p course made = record {
  object = if is_full made.reply then course.object else object_after course.object made.line;
  log = if makes_change course made then course.log ++ made.line ∷ [] else course.log;
  cost = if makes_change course made then more_for course.cost made.line.caller (cost_at p course.log (length course.log) made.line.call) else course.cost;
  gain = if makes_change course made then more_for course.gain made.line.caller (gain_at p course.log (length course.log) made.line.call) else course.gain;
}

-- after these lines
abbrev pub course_from : Plan → Course → List Made → Course
course_from p course [] = course
course_from p course (made ∷ later) = course_from p (course_after p course made) later

-- Full is right: the caller has its share, less what its changes cost it, and what they gave it, and so many nodes don't do
pub record IsRefused (p : Plan) (course : Course) (line : Entry) (need free : ℕ) : Type 0 where
  pub stock : ℕ
  pub left : stock + course.cost line.caller ≡ p.share + course.gain line.caller
  pub full : IsFull p stock course.object.contents course.log line.call need free

-- the reply is right: Full, or that of the object of one thread
abbrev pub IsAnswer : Plan → Course → Entry → Reply → Type 0
IsAnswer p course line (Full need free) = IsRefused p course line need free
IsAnswer p course line reply = reply_in course.object line ≡ reply

-- each line's reply is right where those before it leave the script
abbrev pub Follows : Plan → Course → List Made → Type 0
Follows p course [] = ⊤
Follows p course (made ∷ later) = IsAnswer p course made.line made.reply × Follows p (course_after p course made) later

-- in this order the replies are right, and these are the registers, the pairs and the nodes in the end: none is retired, those in cells are
-- one for each record and one for each empty bucket, and the others are free; no word of a pair is beyond 64 bits
pub record RunsIn (p : Plan) (order : List ℕ) (lines : List Entry) (driven : Driven) : Type 0 where
  pub each_replied : length driven.replies ≡ length lines
  pub follows : Follows p begun (made_in lines driven.replies order)
  pub registers : driven.registers ≡ registers_in (course_from p begun (made_in lines driven.replies order)).object 16
  pub pairs : ArePairsOf (course_from p begun (made_in lines driven.replies order)).object.contents.values driven.pairs
  pub in_range : All IsPairInRange driven.pairs
  pub retired : driven.counts.retired ≡ 0
  pub live : driven.counts.live ≡ live_nodes p (course_from p begun (made_in lines driven.replies order)).log
  pub whole : driven.counts.free + driven.counts.live ≡ nodes p

-- what comes of the lines in some order of them
abbrev pub IsRun : Plan → List Entry → Driven → Type 0
IsRun p lines driven = (order : List ℕ) × IsOrderOf lines order × RunsIn p order lines driven
