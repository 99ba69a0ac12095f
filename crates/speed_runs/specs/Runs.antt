-- What the calls of the threads leave, and how many of them were made.
use Rattle.std.specs.Prelude.{◌≡◌, ℕ, ◌+◌, ◌*◌, Bool, true, false, List, [], ◌∷◌, ◌++◌, count_by, length, map, slice_index, ⊤}
use Rattle.big_atomic.specs.Calls.{HoldStays}
use Rattle.big_atomic.specs.Ready.{IsReady}
use Rattle.big_atomic.specs.Seats.{Stays}
use Rattle.big_atomic.specs.Stands.{Counts}
use Rattle.speed_runs.specs.declared.ran.Ran.{Ran}
use Rattle.step_rules.specs.Closing.{ClosedData, IsClosed}
use Rattle.step_rules.specs.SeatData.{IsOf, ObjectData, SeatData, holds_record, is_quiet}
use Rattle.step_rules.specs.Stood.{spent}
use Rattle.step_rules.specs.Views.{count_up, number}
use Rattle.step_rules.specs.declared.plan.Plan.{Plan}
use Rattle.step_rules.specs.declared.view.Stand.{Stand}

-- each of the stands may come next after those before it
abbrev pub AreTurns : (List Stand → Stand → Type 0) → List Stand → List Stand → Type 0
AreTurns IsTurn before [] = ⊤
AreTurns IsTurn before (s ∷ later) = IsTurn before s × AreTurns IsTurn (before ++ s ∷ []) later

-- the stands are all calls of a thread, in order
pub record IsRun (IsTurn : List Stand → Stand → Type 0) (calls : ℕ) (stands : List Stand) : Type 0 where
  pub all : length stands ≡ calls
  pub turns : AreTurns IsTurn [] stands

-- the stands are all calls of these threads, one thread's after the other's
abbrev pub AreRuns : (ℕ → List Stand → Stand → Type 0) → ℕ → List ℕ → List Stand → Type 0
AreRuns IsTurn calls [] stands = stands ≡ []
AreRuns IsTurn calls (thread ∷ later) stands = (own rest : List Stand) × (stands ≡ own ++ rest) × IsRun (IsTurn thread) calls own × AreRuns IsTurn calls later rest

-- the words name the call that brings them
pub record IsNew (thread i : ℕ) (new : List ℕ) : Type 0 where
  pub call : slice_index new 0 ≡ i + 1
  pub caller : slice_index new 1 ≡ thread

abbrev pub is_changing : Stand → Bool
is_changing s = s.changes

-- one stand more, with P, of a call that was made or not
pub record Adds (P : Stand → Type 0) (is_made : Stand → Bool) (shared : ObjectData) (made : Bool) (before after : SeatData) : Type 0 where
  pub ready : IsReady shared after
  pub stand : Stand
  pub more : after.view.stands ≡ before.view.stands ++ stand ∷ []
  pub turn : P stand
  pub made_is : is_made stand ≡ made
  pub changes : after.view.changes + spent stand ≡ before.view.changes
  pub stays : Stays before after
  pub hold : HoldStays before after

-- a seat of one thread, between two calls, after so many: how many of them were made, as they were counted, and what is left of its changes
pub record HasCome (IsTurn : ℕ → List Stand → Stand → Type 0) (is_made : Stand → Bool) (shared : ObjectData) (i : ℕ) (seat : SeatData) (done : ℕ) : Type 0 where
  pub ready : IsReady shared seat
  pub alone : length seat.view.numbers ≡ 1
  pub count : length seat.view.stands ≡ i
  pub turns : AreTurns (IsTurn (number seat.view)) [] seat.view.stands
  pub done_is : Counts is_made seat.view.stands done
  pub changes : seat.view.changes + count_by is_changing seat.view.stands ≡ shared.plan.changes
  pub none_held : holds_record seat.view ≡ false

-- a quiet seat whose threads made all their calls: each of them stands
pub record HasRun (IsTurn : ℕ → List Stand → Stand → Type 0) (is_made : Stand → Bool) (calls : ℕ) (shared : ObjectData) (seat : SeatData) (done : ℕ) : Type 0 where
  pub ours : IsOf shared seat
  pub quiet : is_quiet seat ≡ true
  pub runs : AreRuns IsTurn calls seat.view.numbers seat.view.stands
  pub done_is : Counts is_made seat.view.stands done
  pub changes : seat.view.changes + count_by is_changing seat.view.stands ≡ shared.plan.changes * length seat.view.numbers

abbrev pub seats_of : List Ran → List SeatData
seats_of all = map (λ (one : Ran). one.seat) all

-- an object of the plan was closed: its stands are all calls of all threads, one thread's after the other's, so many before the timed ones and so
-- many timed, and of them so many were made, and changed it
pub record IsEnding (IsTurn : ℕ → List Stand → Stand → Type 0) (is_made : Stand → Bool) (plan : Plan) (filling timed : ℕ) (closed : ClosedData) (filled calls done changes : ℕ) : Type 0 where
  pub plan_is : closed.plan ≡ plan
  pub closed_is : (seat : SeatData) × IsClosed seat closed
  pub runs : AreRuns IsTurn (filling + timed) (count_up 0 plan.seats) closed.stands
  pub all : length closed.stands ≡ (filling + timed) * plan.seats
  pub filled_is : filled ≡ filling * plan.seats
  pub calls_is : filled + calls ≡ length closed.stands
  pub done_is : done ≡ count_by is_made closed.stands
  pub changes_is : changes ≡ count_by is_changing closed.stands
