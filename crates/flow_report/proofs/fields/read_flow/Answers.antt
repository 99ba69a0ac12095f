use Rattle.std.proofs.Common.{refl}
use Rattle.flow_report.proofs.Spellings.{none_by_parts, none_first, none_second, both_begin, begins_by_parts}
use Rattle.flow_report.proofs.Parts.{flow_by_parts, keys_free}
use Rattle.flow_report.proofs.fields.read_flow.Goals as goal

pub returns-in_err-key : goal.returns-in_err-key
returns-in_err-key c = rw c.from_residual.ensures (none_by_parts flow_by_parts (none_first _ _ c.in_err-key.ensures))

pub returns-in_err-value : goal.returns-in_err-value
returns-in_err-value c = rw c.from_residual-in_err-value.ensures (none_by_parts flow_by_parts (none_second keys_free c.in_ok-key.ensures c.in_err-value.ensures))

pub returns : goal.returns
returns c =
    let key = c.in_ok-key.ensures in
    let value = c.in_ok-value.ensures in
    begins_by_parts flow_by_parts _ refl (key.in_range, value.in_range) (both_begin key value)
