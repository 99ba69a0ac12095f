use Rattle.std.proofs.Common.{◌≡◌, ◌≤◌, ◌-◌, ℕ, List, length, take}
use Rattle.wire_ports.specs.Bytes.{Appends}
use Rattle.wire_ports.specs.Putting.{OffersAll}
use Rattle.wire_ports.proofs.sink.put_all.Given as goal

abbrev pub invariant-pieces : goal.invariant-pieces
invariant-pieces g l = let S = g.O.Sink in record {
  within : l.written ≤ length l.bytes;
  offers : (counts : List ℕ) × OffersAll S.writes l.bytes counts 0 l.fn.sink l.written l.sink;
  front : Appends (S.taken l.fn.sink) (take l.written l.bytes) (S.taken l.sink);
  steady : S.faults l.sink ≡ S.faults l.fn.sink;
}

abbrev pub decreases-pieces : goal.decreases-pieces
decreases-pieces g l = length l.bytes - l.written
