-- Bytes as a report, and the first line of those that are none.
use Rattle.std.specs.Prelude.{◌≡◌, ℕ, ◌+◌, List, [], ◌∷◌, ◌++◌, All, ◌==◌, count_by}
use Rattle.std.specs.List.{flat_map}
use Rattle.flow_fold.specs.Flows.{Flows, HasRisingKeys}
use Rattle.flow_fold.specs.declared.key.Key.{Key}
use Rattle.flow_fold.specs.declared.value.Value.{Value}
use Rattle.netflow_five.specs.declared.engine_line.EngineLine.{EngineLine}
use Rattle.flow_report.specs.EngineOrder.{HasRisingEngines}
use Rattle.flow_report.specs.Ranges.{IsFlowInRange, IsEngineInRange, AreTotalsInRange}
use Rattle.flow_report.specs.Text.{flow_line, engine_text, report_text, line_feed}
use Rattle.flow_report.specs.declared.totals.Totals.{Totals}

-- the bytes are the report of these flows, engines and totals, whose numbers are in range
pub record IsReport (bytes : List ℕ) (flows : Flows) (engines : List EngineLine) (totals : Totals) : Type 0 where
  pub text : bytes ≡ report_text flows engines totals
  pub rising : HasRisingKeys flows
  pub engines_rising : HasRisingEngines engines
  pub flows_in_range : All IsFlowInRange flows
  pub engines_in_range : All IsEngineInRange engines
  pub totals_in_range : AreTotalsInRange totals

-- the value may follow those before it: it is in range, and they rise on to it
abbrev pub IsNext : {X : Type 0} (IsInRange : X → Type 0) (AreRising : List X → Type 0) (before : List X) → X → Type 0
IsNext IsInRange AreRising before value = IsInRange value × AreRising (before ++ value ∷ [])

-- the bytes begin with a good line for each of these values, and go on with the rest
pub record HasLines {X : Type 0} (line : X → List ℕ) (IsInRange : X → Type 0) (AreRising : List X → Type 0) (bytes : List ℕ) (values : List X) (rest : List ℕ) : Type 0 where
  pub lines : bytes ≡ flat_map line values ++ rest
  pub rising : AreRising values
  pub in_range : All IsInRange values

-- the same, and the rest begins with no further good line of this kind
pub record HasJustLines {X : Type 0} (line : X → List ℕ) (IsInRange : X → Type 0) (AreRising : List X → Type 0) (bytes : List ℕ) (values : List X) (rest : List ℕ) : Type 0 where
  pub front : HasLines line IsInRange AreRising bytes values rest
  pub none_follows : (value : X) (after : List ℕ) → ¬ HasLines line IsInRange AreRising bytes (values ++ value ∷ []) after

-- the flow may follow those before it: its key is above theirs
abbrev pub IsNextFlow : Flows → Key × Value → Type 0
IsNextFlow before flow = IsNext IsFlowInRange HasRisingKeys before flow

-- the engine may follow those before it: its type and id are above theirs
abbrev pub IsNextEngine : List EngineLine → EngineLine → Type 0
IsNextEngine before line = IsNext IsEngineInRange HasRisingEngines before line

-- good lines of these flows, and no more
abbrev pub HasJustFlowLines : List ℕ → Flows → List ℕ → Type 0
HasJustFlowLines bytes flows rest = HasJustLines flow_line IsFlowInRange HasRisingKeys bytes flows rest

-- good lines of these engines, and no more
abbrev pub HasJustEngineLines : List ℕ → List EngineLine → List ℕ → Type 0
HasJustEngineLines bytes engines rest = HasJustLines engine_text IsEngineInRange HasRisingEngines bytes engines rest

-- the bytes begin with good lines of these flows, then of these engines, and go on with the rest, which begins with no good line of an engine
pub record HasGoodLines (bytes : List ℕ) (flows : Flows) (engines : List EngineLine) (rest : List ℕ) : Type 0 where
  pub behind_flows : List ℕ
  pub flow_lines : HasJustFlowLines bytes flows behind_flows
  pub engine_lines : HasJustEngineLines behind_flows engines rest

-- the line after the good lines of flows and engines is not the last line of a report, and its number is one more than the line feeds before it
abbrev pub IsBadLine : List ℕ → ℕ → Type 0
IsBadLine bytes line = (flows : Flows) × (engines : List EngineLine) × (rest : List ℕ) × HasGoodLines bytes flows engines rest
    × ((totals : Totals) → ¬ IsReport bytes flows engines totals)
    × (line ≡ count_by (λ b. b == line_feed) (flat_map flow_line flows ++ flat_map engine_text engines) + 1)
