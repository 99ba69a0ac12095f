-- The ranges of the numbers of a flow and of an engine, and of the totals.
use Rattle.std.specs.Prelude.{◌<◌, ◌^◌}
use Rattle.flow_fold.specs.declared.key.Key.{Key}
use Rattle.flow_fold.specs.declared.value.Value.{Value}
use Rattle.netflow_five.specs.declared.engine_line.EngineLine.{EngineLine}
use Rattle.flow_report.specs.declared.totals.Totals.{Totals}

-- both words of the key are below 2^64
pub record IsKeyInRange (key : Key) : Type 0 where
  pub k0 : key.k0 < 2 ^ 64
  pub k1 : key.k1 < 2 ^ 64

-- packets, octets, first, last and flags are below 2^64
pub record IsValueInRange (value : Value) : Type 0 where
  pub packets : value.packets < 2 ^ 64
  pub octets : value.octets < 2 ^ 64
  pub first : value.first < 2 ^ 64
  pub last : value.last < 2 ^ 64
  pub flags : value.flags < 2 ^ 64

-- the key and the value are in range
abbrev pub IsFlowInRange : Key × Value → Type 0
IsFlowInRange flow = IsKeyInRange flow.0 × IsValueInRange flow.1

-- type and id are below 2^8, flows, lost flows and resets below 2^64
pub record IsEngineInRange (line : EngineLine) : Type 0 where
  pub engine_type : line.engine_type < 2 ^ 8
  pub engine_id : line.engine_id < 2 ^ 8
  pub flows : line.flows < 2 ^ 64
  pub lost : line.lost < 2 ^ 64
  pub resets : line.resets < 2 ^ 64

-- records and datagrams are below 2^64
pub record AreTotalsInRange (totals : Totals) : Type 0 where
  pub records : totals.records < 2 ^ 64
  pub datagrams : totals.datagrams < 2 ^ 64
