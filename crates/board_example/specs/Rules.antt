-- What the callers of the board call, and what they count.
use Rattle.std.specs.Prelude.{◌≡◌, ℕ, ◌==◌, ◌||◌, Bool, true, false, List, All, map, slice_index}
use Rattle.big_atomic.specs.Ready.{IsReady}
use Rattle.big_atomic.specs.Registers.{CountsUp, GivesFitting, tells_counted, tells_unfit}
use Rattle.big_atomic.specs.Stands.{Counts, by_call}
use Rattle.board_example.specs.Readings.{is_whole}
use Rattle.board_example.specs.declared.member.Member.{Member}
use Rattle.seat_history.specs.declared.call.Call.{Call}
use Rattle.step_rules.specs.SeatData.{IsOf, ObjectData, SeatData, holds_record, is_quiet}
use Rattle.step_rules.specs.declared.view.Stand.{Stand}

-- a record's count
abbrev pub count_in : List ℕ → ℕ
count_in words = slice_index words 0

-- every register but the counter has a whole reading
abbrev pub fits_board : ℕ → List ℕ → Bool
fits_board reg words = is_whole words || (reg == 0)

-- a call that the board's callers make: whole readings are stored elsewhere than in the counter, which is only counted up, and only readings are held
abbrev pub IsOurCall : Call → Type 0
IsOurCall call = GivesFitting fits_board is_whole call × CountsUp 0 count_in call

-- a count that was made
abbrev pub is_yes : Stand → Bool
is_yes = by_call (tells_counted 0)

-- a reading that is not whole, of another register than the counter
abbrev pub is_torn : Stand → Bool
is_torn = by_call (tells_unfit fits_board is_whole)

-- the stands are ours, and the numbers count them
pub record Kept (stands : List Stand) (yes torn : ℕ) : Type 0 where
  pub ours : All (λ (s : Stand). IsOurCall s.call) stands
  pub yes_is : Counts is_yes stands yes
  pub torn_is : Counts is_torn stands torn

-- a member between two calls, that holds nothing
pub record Works (shared : ObjectData) (member : Member) : Type 0 where
  pub ready : IsReady shared member.seat
  pub none_held : holds_record member.seat.view ≡ false
  pub kept : Kept member.seat.view.stands member.yes member.torn

-- a member after all its calls, or several whose seats were joined
pub record HasDone (shared : ObjectData) (member : Member) : Type 0 where
  pub ours : IsOf shared member.seat
  pub quiet : is_quiet member.seat ≡ true
  pub kept : Kept member.seat.view.stands member.yes member.torn

abbrev pub seats_of : List Member → List SeatData
seats_of members = map (λ (one : Member). one.seat) members
