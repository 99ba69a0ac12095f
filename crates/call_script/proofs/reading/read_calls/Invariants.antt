use Rattle.std.specs.Prelude.{option_map}
use Rattle.std.proofs.Common.{◌≡◌, ◌-◌, length, drop}
use Rattle.seat_history.specs.History.{object_from}
use Rattle.seat_history.specs.Object.{blank_object}
use Rattle.call_script.specs.Cut.{parts_in}
use Rattle.call_script.specs.Holding.{TellsHolders}
use Rattle.call_script.proofs.SoFar.{IsReadSoFar}
use Rattle.call_script.proofs.reading.read_calls.Given as goal

abbrev pub invariant-lines : goal.invariant-lines
invariant-lines l = let all = parts_in 10 (option_map (λ bytes. bytes.now) l.fn.bytes) in record {
  read : IsReadSoFar l.callers all l.calls.items;
  left : drop (length l.calls.items) all ≡ parts_in 10 (option_map (λ bytes. bytes.now) l.rest);
  tells : TellsHolders l.holding (object_from blank_object l.calls.items);
}

abbrev pub decreases-lines : goal.decreases-lines
decreases-lines l = length (parts_in 10 (option_map (λ bytes. bytes.now) l.fn.bytes)) - length l.calls.items
