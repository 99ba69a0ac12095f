-- The lemmas that proofs of a user of the table cite, in one module.
pub use Rattle.big_atomic.proofs.Prelude.{GatheredSoFar, add_up_append, add_up_push, all_more, answered_more, gather_begins, gather_more, if_ok, jobs_back, line_keeps, next_holds, none_after}
pub use Rattle.big_atomic.proofs.Prelude.{alone, built_numbers, callers_below, count_append, count_cons, count_push, quiet_ready, ready_quiet, seats_back}
pub use Rattle.big_atomic.proofs.Prelude.{single, split_led, split_numbers, themselves}
pub use Rattle.cache_hash.proofs.FewKeys.{few_keys_none_full}
pub use Rattle.cache_hash.proofs.KeySums.{counts, key_counts, key_sums, seats_counted, seats_only}
pub use Rattle.cache_hash.proofs.LaterPlaces.{found_is_known, late_insert_stands_later, late_replace_stands_later}
pub use Rattle.cache_hash.proofs.Room.{change_fits, no_call_is_full, no_change_is_full, nodes_stay_left, unused_has_nodes, unused_is_never_short, update_fits}
pub use Rattle.cache_hash.proofs.UpdateSums.{update_adds, update_counts}
pub use Rattle.step_rules.proofs.Numbers.Sets.{length-count_up}
