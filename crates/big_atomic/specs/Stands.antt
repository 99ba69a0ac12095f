-- What a call adds to its seat, and how a user counts its stands.
use Rattle.std.specs.Prelude.{◌≡◌, ℕ, ◌*◌, ◌%◌, ◌^◌, ◌<◌, ◌≤◌, Bool, List, [], ◌∷◌, ◌++◌, count_by, length}
use Rattle.big_atomic.specs.Seats.{Stays}
use Rattle.seat_history.specs.declared.call.Call.{Call}
use Rattle.seat_history.specs.declared.reply.Reply.{Reply}
use Rattle.step_rules.specs.SeatData.{ObjectData, SeatData}
use Rattle.step_rules.specs.declared.view.Stand.{Stand}

-- one stand more, of this call with this reply
pub record StandsMore (asked : Call) (told : Reply) (before after : SeatData) : Type 0 where
  pub stand : Stand
  pub more : after.view.stands ≡ before.view.stands ++ stand ∷ []
  pub call : stand.call ≡ asked
  pub reply : stand.reply ≡ told
  pub stays : Stays before after

-- the seat has seen more of the history, which is no longer than the plan allows
pub record HasSeenMore (shared : ObjectData) (before after : SeatData) : Type 0 where
  pub more : length before.view.seen < length after.view.seen
  pub within : length after.view.seen ≤ shared.plan.seats * shared.plan.changes

-- a test of a stand by its call and reply
abbrev pub by_call : (Call → Reply → Bool) → Stand → Bool
by_call test s = test s.call s.reply

-- the number counts the stands under the test, modulo 2^64
abbrev pub Counts : (Stand → Bool) → List Stand → ℕ → Type 0
Counts test stands n = n ≡ count_by test stands % 2 ^ 64
