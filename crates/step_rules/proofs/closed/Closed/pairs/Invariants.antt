use Rattle.std.proofs.Common.{◌≡◌}
use Rattle.seat_history.specs.Plain.{found_in}
use Rattle.step_rules.proofs.Order.LastChains.{bucket_values}
use Rattle.step_rules.proofs.closed.Closed.pairs.Given as goal

-- the map has the pairs of the buckets before
abbrev pub invariant-loop-bucket : goal.invariant-loop-bucket
invariant-loop-bucket l = found_in l.map ≡ bucket_values l.self.plan l.self.history l.bucket
