use Rattle.std.proofs.Common.{refl, arith}
use Rattle.flow_report.proofs.Spellings.{none_by_parts, none_first, none_second, both_begin, begins_by_parts}
use Rattle.flow_report.proofs.Parts.{value_by_parts, counts_free}
use Rattle.flow_report.proofs.fields.read_value.Goals as goal

pub returns-in_err-packets : goal.returns-in_err-packets
returns-in_err-packets c = rw c.from_residual.ensures (none_by_parts value_by_parts (none_first _ _ c.in_err-packets.ensures))

pub returns-in_err-octets : goal.returns-in_err-octets
returns-in_err-octets c = rw c.from_residual-in_err-octets.ensures (none_by_parts value_by_parts (none_second counts_free c.in_ok-packets.ensures (none_first _ _ c.in_err-octets.ensures)))

pub returns-in_err-first : goal.returns-in_err-first
returns-in_err-first c = rw c.from_residual-in_err-first.ensures
    (none_by_parts value_by_parts (none_second counts_free c.in_ok-packets.ensures (none_second counts_free c.in_ok-octets.ensures (none_first _ _ c.in_err-first.ensures))))

pub returns-in_err-last : goal.returns-in_err-last
returns-in_err-last c = rw c.from_residual-in_err-last.ensures
    (none_by_parts value_by_parts (none_second counts_free c.in_ok-packets.ensures
    (none_second counts_free c.in_ok-octets.ensures (none_second counts_free c.in_ok-first.ensures (none_first _ _ c.in_err-last.ensures)))))

pub returns-in_err-flags : goal.returns-in_err-flags
returns-in_err-flags c = rw c.from_residual-in_err-flags.ensures
    (none_by_parts value_by_parts (none_second counts_free c.in_ok-packets.ensures
    (none_second counts_free c.in_ok-octets.ensures (none_second counts_free c.in_ok-first.ensures
    (none_second counts_free c.in_ok-last.ensures c.in_err-flags.ensures)))))

pub returns : goal.returns
returns c =
    let packets = c.in_ok-packets.ensures in
    let octets = c.in_ok-octets.ensures in
    let first = c.in_ok-first.ensures in
    let last = c.in_ok-last.ensures in
    let flags = c.in_ok-flags.ensures in
    begins_by_parts value_by_parts _ refl
    record {
      packets = omega (arith, packets.in_range);
      octets = omega (arith, octets.in_range);
      first = omega (arith, first.in_range);
      last = omega (arith, last.in_range);
      flags = omega (arith, flags.in_range);
    }
    (both_begin packets (both_begin octets (both_begin first (both_begin last flags))))
