use Rattle.std.proofs.Common.{◌≡◌, ◌++◌, All, length, true}
use Rattle.std.specs.Vec.Iter.{into_iter_items, into_iter_len}
use Rattle.big_atomic.specs.Seats.{IsQuietOf, all_numbers, all_stands}
use Rattle.step_rules.specs.SeatData.{IsSeat}
use Rattle.big_atomic.proofs.seats.join_all.Given as goal

abbrev pub invariant-loop-seat : goal.invariant-loop-seat
invariant-loop-seat l = record {
  numbers : l.first.view.numbers ++ all_numbers (into_iter_items l.seat-iterator) ≡ l.fn.first.view.numbers ++ all_numbers l.fn.rest.items;
  stands : l.first.view.stands ++ all_stands (into_iter_items l.seat-iterator) ≡ l.fn.first.view.stands ++ all_stands l.fn.rest.items;
  first : l.first.first ≡ true;
  ours : IsQuietOf l.shared l.first;
  law : IsSeat l.first;
  theirs : All (IsQuietOf l.shared) (into_iter_items l.seat-iterator);
  long : into_iter_len l.seat-iterator ≡ length (into_iter_items l.seat-iterator);
}
