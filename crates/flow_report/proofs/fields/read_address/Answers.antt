use Rattle.std.proofs.Common.{arith}
use Rattle.flow_report.proofs.Spellings.{none_by_parts, none_first, none_second, both_begin, begins_by_parts}
use Rattle.flow_report.proofs.Parts.{address_by_parts, address_from_bytes, bytes_free}
use Rattle.flow_report.proofs.fields.read_address.Goals as goal

pub returns-in_err-first : goal.returns-in_err-first
returns-in_err-first c = rw c.from_residual.ensures (none_by_parts address_by_parts (none_first _ _ c.in_err-first.ensures))

pub returns-in_err-second : goal.returns-in_err-second
returns-in_err-second c = rw c.from_residual-in_err-second.ensures
    (none_by_parts address_by_parts (none_second (bytes_free 46 (omega arith)) c.in_ok-first.ensures (none_first _ _ c.in_err-second.ensures)))

pub returns-in_err-third : goal.returns-in_err-third
returns-in_err-third c = rw c.from_residual-in_err-third.ensures
    (none_by_parts address_by_parts (none_second (bytes_free 46 (omega arith)) c.in_ok-first.ensures
    (none_second (bytes_free 46 (omega arith)) c.in_ok-second.ensures (none_first _ _ c.in_err-third.ensures))))

pub returns-in_err-fourth : goal.returns-in_err-fourth
returns-in_err-fourth c = rw c.from_residual-in_err-fourth.ensures
    (none_by_parts address_by_parts (none_second (bytes_free 46 (omega arith)) c.in_ok-first.ensures
    (none_second (bytes_free 46 (omega arith)) c.in_ok-second.ensures (none_second (bytes_free 46 (omega arith)) c.in_ok-third.ensures c.in_err-fourth.ensures))))

pub returns : goal.returns
returns c =
    let first = c.in_ok-first.ensures in
    let second = c.in_ok-second.ensures in
    let third = c.in_ok-third.ensures in
    let fourth = c.in_ok-fourth.ensures in
    begins_by_parts address_by_parts _
    (address_from_bytes _ _ _ _ _ (omega (arith, first.in_range, second.in_range, third.in_range, fourth.in_range)) first.in_range second.in_range third.in_range fourth.in_range)
    (omega (arith, first.in_range, second.in_range, third.in_range, fourth.in_range))
    (both_begin first (both_begin second (both_begin third fourth)))
