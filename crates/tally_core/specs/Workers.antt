-- Workers, and a caller's from its first line to its last.
use Rattle.std.specs.Prelude.{◌≡◌, ℕ, ◌<◌, ◌≤◌, ◌==◌, true, All, List, [], ◌∷◌, ◌++◌, filter, length, map, slice_index_or, Vec, vec_capacity}
use Rattle.std.specs.List.{AllByRecursion, sum_by}
use Rattle.std.specs.declared.alloc.Global.{Global}
use Rattle.big_atomic.specs.Ready.{IsReady}
use Rattle.big_atomic.specs.Seats.{AreLed, IsUnused, all_numbers, all_stands}
use Rattle.call_script.specs.Holding.{MayTurn, calls_by, holds_from}
use Rattle.call_script.specs.Row.{made_of}
use Rattle.call_script.specs.Run.{made_lines, own_lines}
use Rattle.call_script.specs.Script.{MayRun}
use Rattle.seat_history.specs.Object.{blank_object}
use Rattle.seat_history.specs.declared.entry.Entry.{Entry}
use Rattle.seat_history.specs.declared.reply.Reply.{Reply}
use Rattle.step_rules.specs.Closing.{ClosedData, IsClosed}
use Rattle.step_rules.specs.History.{GoesOn, IsThere}
use Rattle.step_rules.specs.Lawful.{entry_of}
use Rattle.step_rules.specs.Records.{removes_of}
use Rattle.step_rules.specs.SeatData.{IsOf, IsSeat, ObjectData, SeatData, holds_record, is_quiet}
use Rattle.step_rules.specs.Views.{count_up, number}
use Rattle.step_rules.specs.declared.plan.Plan.{Plan}
use Rattle.step_rules.specs.declared.view.Stand.{Stand}
use Rattle.tally_core.specs.Driving.{last_release, leaves}
use Rattle.tally_core.specs.declared.worker.Worker.{Worker}

-- a caller's seat, and the replies to its lines
abbrev pub Caller : Type 0
Caller = Worker (Vec Reply Global)

-- the workers' seats
abbrev pub seats_of : {T : Type 0} → List (Worker T) → List SeatData
seats_of workers = map (λ one. one.seat) workers

-- the replies that stands have
abbrev pub replies_of : List Stand → List Reply
replies_of stands = map (λ (s : Stand). s.reply) stands

-- the calls that stands have, with their callers
abbrev pub entries_of : List Stand → List Entry
entries_of stands = map entry_of stands

-- a caller's lines
abbrev pub lines_by : ℕ → List Entry → List Entry
lines_by x lines = filter (λ (line : Entry). line.caller == x) lines

-- the removes among lines
abbrev pub removes_in : List Entry → ℕ
removes_in lines = sum_by (λ (line : Entry). removes_of line.call) lines

-- the lines of the caller x before these ones were called: their calls and replies stand, and what is left of its seat does for these ones
pub record HasCome (shared : ObjectData) (lines : List Entry) (x : ℕ) (rest : List Entry) (caller : Caller) : Type 0 where
  pub ready : IsReady shared caller.seat
  pub numbers : caller.seat.view.numbers ≡ x ∷ []
  pub entries : entries_of caller.seat.view.stands ++ lines_by x rest ≡ lines_by x lines
  pub replies_are : replies_of caller.seat.view.stands ≡ caller.told.items
  pub room : length (lines_by x lines) ≤ vec_capacity caller.told
  pub changes : length (lines_by x rest) ≤ caller.seat.view.changes
  pub removes : removes_in (lines_by x rest) ≤ caller.seat.view.removes
  pub may : MayTurn (holds_record caller.seat.view) (calls_by x rest)
  pub left : holds_from (holds_record caller.seat.view) (calls_by x rest) ≡ leaves lines x
  pub there : AllByRecursion (λ (line : Entry). IsThere shared.plan line.call) rest

-- the stands are those of all lines of the caller x with these replies, and then of a Release where they leave a record held
pub record AreCalled (lines : List Entry) (x : ℕ) (replies : List Reply) (stands : List Stand) : Type 0 where
  pub own : List Stand
  pub last : List Stand
  pub parts : stands ≡ own ++ last
  pub entries : entries_of own ≡ lines_by x lines
  pub replies_are : replies_of own ≡ replies
  pub ending : map made_of last ≡ last_release lines x

-- a quiet seat of the object
pub record IsDone (shared : ObjectData) (seat : SeatData) : Type 0 where
  pub ours : IsOf shared seat
  pub law : IsSeat seat
  pub quiet : is_quiet seat ≡ true

-- each worker's seat is one
abbrev pub AreDone : {T : Type 0} → ObjectData → List (Worker T) → Type 0
AreDone shared workers = All (λ one. IsDone shared one.seat) workers

-- all lines of the caller x were called, and its seat is quiet
pub record HasRun (shared : ObjectData) (lines : List Entry) (x : ℕ) (caller : Caller) : Type 0 where
  pub done : IsDone shared caller.seat
  pub numbers : caller.seat.view.numbers ≡ x ∷ []
  pub called : AreCalled lines x caller.told.items caller.seat.view.stands

-- each caller's lines are still to be called
abbrev pub HaveCome : ObjectData → List Entry → List Caller → Type 0
HaveCome shared lines callers = All (λ (one : Caller). HasCome shared lines (number one.seat.view) lines one) callers

-- each caller's lines were called
abbrev pub HaveRun : ObjectData → List Entry → List Caller → Type 0
HaveRun shared lines callers = All (λ (one : Caller). HasRun shared lines (number one.seat.view) one) callers

-- the plan is one for these lines: each may be called in turn, and there are as many changes as lines, and as many removes as lines that remove
pub record IsFor (lines : List Entry) (p : Plan) : Type 0 where
  pub may : MayRun p.seats blank_object lines
  pub few : length lines ≤ 65536
  pub registers : p.registers ≡ 16
  pub buckets : 0 < p.buckets
  pub changes : p.changes ≡ length lines
  pub removes : p.removes ≡ removes_in lines

-- no reply is there yet, and there is room for those to all lines of the caller
pub record HasRoom (lines : List Entry) (one : Caller) : Type 0 where
  pub none : one.told.items ≡ []
  pub room : length (lines_by (number one.seat.view) lines) ≤ vec_capacity one.told

-- an object of the plan, and a seat for each of its numbers, the first of which takes in the others
pub record HasSeats (p : Plan) (shared : ObjectData) (seats : List SeatData) : Type 0 where
  pub plan_is : shared.plan ≡ p
  pub unused : All (IsUnused shared) seats
  pub numbers : all_numbers seats ≡ count_up 0 p.seats
  pub led : AreLed seats

-- an object of the plan, and a caller for each of its numbers, the first of whom takes in the others
pub record HasOpened (p : Plan) (lines : List Entry) (shared : ObjectData) (callers : List Caller) : Type 0 where
  pub plan_is : shared.plan ≡ p
  pub come : HaveCome shared lines callers
  pub numbers : all_numbers (seats_of callers) ≡ count_up 0 p.seats
  pub led : AreLed (seats_of callers)

-- the first seat took in all others: it has their numbers and their stands, in order, and has seen what each of them had
pub record HasGathered (shared : ObjectData) (seats : List SeatData) (seat : SeatData) : Type 0 where
  pub done : IsDone shared seat
  pub first : seat.first ≡ true
  pub numbers : seat.view.numbers ≡ all_numbers seats
  pub stands : seat.view.stands ≡ all_stands seats
  pub seen : All (λ (one : SeatData). GoesOn one.view.seen seat.view.seen) seats

-- the object of these seats was closed, with nothing retired
pub record HasClosed (shared : ObjectData) (seats : List SeatData) (closed : ClosedData) : Type 0 where
  pub plan_is : closed.plan ≡ shared.plan
  pub closed_is : (seat : SeatData) × IsClosed seat closed × (seat.view.numbers ≡ all_numbers seats)
  pub law : IsSeat closed_is.0
  pub callers : All (λ (s : Stand). s.by < closed.plan.seats) closed.stands
  pub stands : closed.stands ≡ all_stands seats
  pub seen : All (λ (one : SeatData). GoesOn one.view.seen closed.history) seats
  pub none_retired : closed.retired ≡ []

-- the replies of the caller at this place
abbrev pub replies_at : List Caller → ℕ → List Reply
replies_at callers x = slice_index_or (map (λ (one : Caller). one.told.items) callers) x []

-- all callers' replies in the order of the lines
pub record HasMerged (lines : List Entry) (told : ℕ → List Reply) (replies : List Reply) : Type 0 where
  pub count : length replies ≡ length lines
  pub each : (x : ℕ) → own_lines x (made_lines lines replies) ≡ made_lines (lines_by x lines) (told x)
