use Rattle.std.proofs.Common.{◌≤◌, ◌+◌, ◌-◌, ℕ, List, length}
use Rattle.netflow_five.specs.Next.{ReadTo, CameTo}
use Rattle.netflow_five.proofs.collecting.collect_front.Given as goal

abbrev pub invariant-datagrams : goal.invariant-datagrams
invariant-datagrams g l = let C = g.C.Collector in record {
  read : (ds : List (List ℕ)) × ReadTo l.bytes l.at ds × CameTo C.holds l.fn.collector ds l.collector;
  span : C.span l.collector ≤ C.span l.fn.collector + l.at;
}

abbrev pub decreases-datagrams : goal.decreases-datagrams
decreases-datagrams g l = length l.bytes - l.at
