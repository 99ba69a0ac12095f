-- The lines of flows and of engines as kinds of lines.
use Rattle.std.specs.List.{join_with_byte}
use Rattle.std.proofs.Common.{◌≡◌, ℕ, ◌<◌, ◌+◌, List, [], ◌∷◌, ◌++◌, length, arith}
use Rattle.std.proofs.lemmas.List.{length-append}
use Rattle.flow_fold.specs.Flows.{HasRisingKeys}
use Rattle.flow_fold.specs.Key.{key_cmp}
use Rattle.flow_fold.specs.declared.key.Key.{Key}
use Rattle.flow_fold.specs.declared.value.Value.{Value}
use Rattle.netflow_five.specs.Engines.{engine_cmp, line_engine}
use Rattle.netflow_five.specs.declared.engine_line.EngineLine.{EngineLine}
use Rattle.netflow_five.proofs.Senders.{engine_cmp_total}
use Rattle.flow_report.specs.EngineOrder.{HasRisingEngines}
use Rattle.flow_report.specs.Ranges.{IsFlowInRange, IsEngineInRange}
use Rattle.flow_report.specs.Text.{flow_line, engine_text, key_text, value_text, words_then, space}
use Rattle.flow_report.proofs.EngineParts.{engines_free}
use Rattle.flow_report.proofs.Fronts.{IsKind}
use Rattle.flow_report.proofs.Parts.{flows_free}
use Rattle.flow_report.proofs.Rising.{flow_key, key_cmp_total, rising_front, rising_none}

words_have_bytes : (after : ℕ) (words : List (List ℕ)) → 0 < length (words_then after words)
unfolding words_then
words_have_bytes after words = omega (arith, length-append (join_with_byte space words) (after ∷ []))

flow_has_bytes : (flow : Key × Value) → 0 < length (flow_line flow)
unfolding flow_line key_text
flow_has_bytes flow =
    let line : length (flow_line flow) ≡ length (key_text flow.0) + length (value_text flow.1) = length-append (key_text flow.0) (value_text flow.1) in
    let key : 0 < length (key_text flow.0) = words_have_bytes _ _ in
    omega arith

engine_has_bytes : (line : EngineLine) → 0 < length (engine_text line)
unfolding engine_text
engine_has_bytes line = words_have_bytes _ _

pub flow_kind : IsKind flow_line IsFlowInRange HasRisingKeys
flow_kind = record {
  free = flows_free;
  has_bytes = flow_has_bytes;
  front = λ xs ys h. rising_front flow_key key_cmp key_cmp_total xs ys h;
  none = rising_none key_cmp;
}

pub engine_kind : IsKind engine_text IsEngineInRange HasRisingEngines
engine_kind = record {
  free = engines_free;
  has_bytes = engine_has_bytes;
  front = λ xs ys h. rising_front line_engine engine_cmp engine_cmp_total xs ys h;
  none = rising_none engine_cmp;
}
