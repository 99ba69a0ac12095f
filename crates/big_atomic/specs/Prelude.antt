-- All names that contracts and definitions of a user of the registers cite, in one module.
pub use Rattle.big_atomic.specs.Calls.{IsHeld, IsLoaded, IsLooked, IsReleased, IsStored, IsSwapped, says_yes, store_reply, swap_reply}
pub use Rattle.big_atomic.specs.Ready.{IsReady}
pub use Rattle.big_atomic.specs.Registers.{CountsUp, FitsBlank, GivesFitting, HasCounted, HasFitting, end_of, tells_counted, tells_unfit}
pub use Rattle.big_atomic.specs.Seats.{AreBack, AreLed, AreSplit, IsJoinedAll, IsQuietOf, IsUnused, Stays, all_numbers, all_stands}
pub use Rattle.big_atomic.specs.Stands.{Counts, HasSeenMore, StandsMore, by_call}
pub use Rattle.big_atomic.specs.Sums.{AddUpTo, Adding, AddsToRegister, Shows}
pub use Rattle.seat_history.specs.Contents.{Contents, zeros}
pub use Rattle.seat_history.specs.declared.call.Call.{Call}
pub use Rattle.seat_history.specs.declared.call.Call.TheVariants.{Hold, Load, Look, Release, Store, Swap}
pub use Rattle.seat_history.specs.declared.reply.Reply.{Reply}
pub use Rattle.seat_history.specs.declared.reply.Reply.TheVariants.{Done, Full, No, Words, Yes}
pub use Rattle.seat_history.specs.declared.words.TheConstants.{WIDTH}
pub use Rattle.step_rules.specs.Closing.{ClosedData, IsClosed}
pub use Rattle.step_rules.specs.Layout.{IsPlan}
pub use Rattle.step_rules.specs.Ranges.{IsFirstOutOfRange}
pub use Rattle.step_rules.specs.SeatData.{IsOf, IsSeat, ObjectData, SeatData, holds_record, is_quiet}
pub use Rattle.step_rules.specs.Starts.{IsBuilt}
pub use Rattle.step_rules.specs.Steps.{IsJoined}
pub use Rattle.step_rules.specs.declared.plan.Plan.{Plan}
pub use Rattle.step_rules.specs.declared.view.Stand.{Stand}
