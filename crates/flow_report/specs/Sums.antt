-- What the last line says of the flow lines.
use Rattle.std.specs.Prelude.{ℕ}
use Rattle.std.specs.List.{sum_by}
use Rattle.flow_fold.specs.Flows.{Flows}

-- the packets of all flows together
abbrev pub packets_of : Flows → ℕ
packets_of flows = sum_by (λ f. f.1.packets) flows

-- the octets of all flows together
abbrev pub octets_of : Flows → ℕ
octets_of flows = sum_by (λ f. f.1.octets) flows
