use Rattle.std.proofs.Common.{◌≡◌, ℕ, ◌+◌, ◌++◌, map}
use Rattle.std.specs.List.{flat_map}
use Rattle.netflow_five.specs.Encoding.{record_bytes}
use Rattle.netflow_five.specs.Generating.{flow_at, number_after, numbers_from}
use Rattle.netflow_five.proofs.generator.add_flows.Given as goal

abbrev pub invariant-loop-k : goal.invariant-loop-k
invariant-loop-k l = (start : ℕ) → l.number ≡ number_after start l.j
    → (l.bytes.items ≡ l.fn.bytes.items ++ flat_map record_bytes (map (flow_at start) (numbers_from l.j l.k))) × (l.last ≡ number_after start (l.j + l.k))
