-- The lemmas that proofs of a user of the registers cite, in one module.
pub use Rattle.big_atomic.proofs.Adding.{all_more, answered_more, counts_both, counts_more, counts_push, counts_same, looked_more, none_after, released_more, yes_counts}
pub use Rattle.big_atomic.proofs.Counting.{count_append, count_cons, count_push}
pub use Rattle.big_atomic.proofs.CountingUp.{register_counts}
pub use Rattle.big_atomic.proofs.Fitting.{records_fit}
pub use Rattle.big_atomic.proofs.Gathering.{GatheredSoFar, gather_begins, gather_more, next_holds}
pub use Rattle.big_atomic.proofs.Jobs.{if_ok, jobs_back, seats_back}
pub use Rattle.big_atomic.proofs.Lines.{callers_below, line_counts, line_keeps}
pub use Rattle.big_atomic.proofs.Missing.{missed_has_seen_more}
pub use Rattle.big_atomic.proofs.RegisterSums.{register_sums}
pub use Rattle.big_atomic.proofs.SeatNumbers.{alone, built_numbers, single, split_led, split_numbers, themselves}
pub use Rattle.big_atomic.proofs.Sharing.{quiet_ready, ready_quiet}
pub use Rattle.big_atomic.proofs.Sums.{add_up_append, add_up_push}
