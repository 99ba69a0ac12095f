use Rattle.std.proofs.Common.{◌≡◌, ◌++◌, All, take}
use Rattle.std.specs.List.{flat_map}
use Rattle.flow_report.specs.Ranges.{IsEngineInRange}
use Rattle.flow_report.specs.Text.{engine_text}
use Rattle.flow_report.proofs.text.add_engines.Given as goal

abbrev pub invariant-loop-line : goal.invariant-loop-line
invariant-loop-line l = record {
  lines : l.text ≡ l.fn.text ++ flat_map engine_text (take l.line-index l.engines);
  in_range : All IsEngineInRange (take l.line-index l.engines);
}
