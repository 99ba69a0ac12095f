use Rattle.std.proofs.Common.{refl, arith}
use Rattle.flow_report.proofs.Spellings.{none_by_parts, none_first, none_second, both_begin, begins_by_parts}
use Rattle.flow_report.proofs.EngineParts.{engine_by_parts, engine_from_parts, types_free, ids_free, came_free, lost_free}
use Rattle.flow_report.proofs.engine_lines.read_engine.Goals as goal

pub returns-in_err-engine_type : goal.returns-in_err-engine_type
returns-in_err-engine_type c = rw c.from_residual.ensures (none_by_parts engine_by_parts (none_first _ _ c.in_err-engine_type.ensures))

pub returns-in_err-engine_id : goal.returns-in_err-engine_id
returns-in_err-engine_id c =
    rw c.from_residual-in_err-engine_id.ensures (none_by_parts engine_by_parts
    (none_second types_free c.in_ok-engine_type.ensures (none_first _ _ c.in_err-engine_id.ensures)))

pub returns-in_err-flows : goal.returns-in_err-flows
returns-in_err-flows c =
    rw c.from_residual-in_err-flows.ensures (none_by_parts engine_by_parts
    (none_second types_free c.in_ok-engine_type.ensures (none_second ids_free c.in_ok-engine_id.ensures (none_first _ _ c.in_err-flows.ensures))))

pub returns-in_err-lost : goal.returns-in_err-lost
returns-in_err-lost c =
    rw c.from_residual-in_err-lost.ensures (none_by_parts engine_by_parts
    (none_second types_free c.in_ok-engine_type.ensures (none_second ids_free c.in_ok-engine_id.ensures
    (none_second came_free c.in_ok-flows.ensures (none_first _ _ c.in_err-lost.ensures)))))

pub returns-in_err-resets : goal.returns-in_err-resets
returns-in_err-resets c =
    rw c.from_residual-in_err-resets.ensures (none_by_parts engine_by_parts
    (none_second types_free c.in_ok-engine_type.ensures (none_second ids_free c.in_ok-engine_id.ensures
    (none_second came_free c.in_ok-flows.ensures (none_second lost_free c.in_ok-lost.ensures c.in_err-resets.ensures)))))

pub returns : goal.returns
returns c =
    let engine_type = c.in_ok-engine_type.ensures in
    let engine_id = c.in_ok-engine_id.ensures in
    let flows = c.in_ok-flows.ensures in
    let lost = c.in_ok-lost.ensures in
    let resets = c.in_ok-resets.ensures in
    begins_by_parts engine_by_parts _
    (engine_from_parts _ _ _ _ _ _ (omega (arith, engine_type.in_range)) (omega (arith, engine_id.in_range)) refl refl refl)
    record {
      engine_type = omega (arith, engine_type.in_range);
      engine_id = omega (arith, engine_id.in_range);
      flows = omega (arith, flows.in_range);
      lost = omega (arith, lost.in_range);
      resets = omega (arith, resets.in_range);
    }
    (both_begin engine_type (both_begin engine_id (both_begin flows (both_begin lost resets))))
