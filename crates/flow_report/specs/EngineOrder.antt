-- Engines in the order of their lines.
use Rattle.std.specs.Prelude.{List, map}
use Rattle.std.specs.List.Sorted.{IsStrictlySortedBy}
use Rattle.netflow_five.specs.Engines.{engine_cmp, line_engine}
use Rattle.netflow_five.specs.declared.engine_line.EngineLine.{EngineLine}

-- each line's engine is below those after it, by type and then by id
abbrev pub HasRisingEngines : List EngineLine → Type 0
HasRisingEngines lines = IsStrictlySortedBy engine_cmp (map line_engine lines)
