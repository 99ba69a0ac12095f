use Rattle.std.proofs.Common.{arith}
use Rattle.flow_report.proofs.Spellings.{none_by_parts, none_first, none_second, both_begin, begins_by_parts}
use Rattle.flow_report.proofs.Parts.{key_by_parts, key_from_parts, addresses_free, ports_free, bytes_free}
use Rattle.flow_report.proofs.fields.read_key.Goals as goal

pub returns-in_err-source : goal.returns-in_err-source
returns-in_err-source c = rw c.from_residual.ensures (none_by_parts key_by_parts (none_first _ _ c.in_err-source.ensures))

pub returns-in_err-destination : goal.returns-in_err-destination
returns-in_err-destination c = rw c.from_residual-in_err-destination.ensures
    (none_by_parts key_by_parts (none_second addresses_free c.in_ok-source.ensures (none_first _ _ c.in_err-destination.ensures)))

pub returns-in_err-source_port : goal.returns-in_err-source_port
returns-in_err-source_port c = rw c.from_residual-in_err-source_port.ensures
    (none_by_parts key_by_parts (none_second addresses_free c.in_ok-source.ensures (none_second addresses_free c.in_ok-destination.ensures (none_first _ _ c.in_err-source_port.ensures))))

pub returns-in_err-destination_port : goal.returns-in_err-destination_port
returns-in_err-destination_port c = rw c.from_residual-in_err-destination_port.ensures
    (none_by_parts key_by_parts (none_second addresses_free c.in_ok-source.ensures
    (none_second addresses_free c.in_ok-destination.ensures (none_second ports_free c.in_ok-source_port.ensures (none_first _ _ c.in_err-destination_port.ensures)))))

pub returns-in_err-protocol : goal.returns-in_err-protocol
returns-in_err-protocol c = rw c.from_residual-in_err-protocol.ensures
    (none_by_parts key_by_parts (none_second addresses_free c.in_ok-source.ensures (none_second addresses_free c.in_ok-destination.ensures
    (none_second ports_free c.in_ok-source_port.ensures (none_second ports_free c.in_ok-destination_port.ensures (none_first _ _ c.in_err-protocol.ensures))))))

pub returns-in_err-service : goal.returns-in_err-service
returns-in_err-service c = rw c.from_residual-in_err-service.ensures
    (none_by_parts key_by_parts (none_second addresses_free c.in_ok-source.ensures (none_second addresses_free c.in_ok-destination.ensures
    (none_second ports_free c.in_ok-source_port.ensures (none_second ports_free c.in_ok-destination_port.ensures
    (none_second (bytes_free 32 (omega arith)) c.in_ok-protocol.ensures (none_first _ _ c.in_err-service.ensures)))))))

pub returns-in_err-input : goal.returns-in_err-input
returns-in_err-input c = rw c.from_residual-in_err-input.ensures
    (none_by_parts key_by_parts (none_second addresses_free c.in_ok-source.ensures (none_second addresses_free c.in_ok-destination.ensures
    (none_second ports_free c.in_ok-source_port.ensures (none_second ports_free c.in_ok-destination_port.ensures
    (none_second (bytes_free 32 (omega arith)) c.in_ok-protocol.ensures (none_second (bytes_free 32 (omega arith)) c.in_ok-service.ensures c.in_err-input.ensures)))))))

pub returns : goal.returns
returns c =
    let source = c.in_ok-source.ensures in
    let destination = c.in_ok-destination.ensures in
    let source_port = c.in_ok-source_port.ensures in
    let destination_port = c.in_ok-destination_port.ensures in
    let protocol = c.in_ok-protocol.ensures in
    let service = c.in_ok-service.ensures in
    let input = c.in_ok-input.ensures in
    let fields = both_begin source (both_begin destination (both_begin source_port (both_begin destination_port (both_begin protocol (both_begin service input))))) in
    begins_by_parts key_by_parts _
    (key_from_parts _ _ _ _ _ _ _ _
    (omega (arith, c.from.ensures, c.from-2.ensures, source.in_range, destination.in_range))
    (omega (arith, source_port.in_range, destination_port.in_range, protocol.in_range, service.in_range, input.in_range))
    source.in_range destination.in_range source_port.in_range destination_port.in_range protocol.in_range service.in_range input.in_range)
    record {
      k0 = omega (arith, c.from.ensures, c.from-2.ensures, source.in_range, destination.in_range);
      k1 = omega (arith, source_port.in_range, destination_port.in_range, protocol.in_range, service.in_range, input.in_range);
    }
    fields
