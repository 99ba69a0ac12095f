use Rattle.std.proofs.Common.{length}
use Rattle.flow_report.specs.EngineOrder.{HasRisingEngines}
use Rattle.flow_report.specs.Ranges.{IsEngineInRange}
use Rattle.flow_report.specs.ReadBack.{HasLines}
use Rattle.flow_report.specs.Text.{engine_text}
use Rattle.flow_report.proofs.engine_lines.read_engines.Given as goal

abbrev pub invariant-loop-line : goal.invariant-loop-line
invariant-loop-line l = HasLines engine_text IsEngineInRange HasRisingEngines l.text l.engines.items l.rest

abbrev pub decreases-loop-line : goal.decreases-loop-line
decreases-loop-line l = length l.rest
