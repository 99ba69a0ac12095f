-- All names that contracts and definitions of a user of the table cite, in one module; those of registers alone are in big_atomic's.
pub use Rattle.big_atomic.specs.Prelude.{AddUpTo, Adding, AreBack, AreLed, AreSplit, IsJoinedAll, IsQuietOf, IsReady, IsUnused, Shows, StandsMore, Stays, all_numbers, all_stands, by_call, end_of}
pub use Rattle.big_atomic.specs.Prelude.{Call, ClosedData, Contents, IsBuilt, IsClosed, IsFirstOutOfRange, IsJoined, IsOf, IsPlan, IsSeat}
pub use Rattle.big_atomic.specs.Prelude.{ObjectData, Plan, Reply, SeatData, Stand, holds_record, is_quiet}
pub use Rattle.cache_hash.specs.Calls.{IsFound, IsInserted, IsKeyChange, IsRemoved, IsReplaced, IsUpdated, find_reply, insert_reply, is_done, is_replaced, replaced_reply, value_at}
pub use Rattle.cache_hash.specs.Keys.{HasFewKeys, NotFull, OnlyPuts}
pub use Rattle.cache_hash.specs.Places.{CameLateToInsert, CameLateToReplace, KnowsKey, StandsLater, last_place}
pub use Rattle.cache_hash.specs.Room.{CallFits, Fits, HasNodesLeft, HasRoom, IsNeverShort, IsNotFull}
pub use Rattle.cache_hash.specs.Sums.{AddToKey, AddsToKey, CountsKeys, CountsMore, IsCount, IsSum, OnlyCount, PutsMore, PutsOneMore, amount_added, counted_once, tells_key, times_counted}
pub use Rattle.seat_history.specs.Key.{key_number}
pub use Rattle.seat_history.specs.Pairs.{ArePairsOf, Pairs, value_in}
pub use Rattle.seat_history.specs.declared.call.Call.TheVariants.{Find, Insert, Remove, Replace}
pub use Rattle.seat_history.specs.declared.key.KeyWords.{KeyWords}
pub use Rattle.seat_history.specs.declared.reply.Reply.TheVariants.{Absent, Done, Found, Full, Gone, Present, Val, Yes}
pub use Rattle.step_rules.specs.Views.{count_up}
