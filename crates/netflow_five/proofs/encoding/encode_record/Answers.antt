use Rattle.std.proofs.Common.{refl, arith}
use Rattle.netflow_five.specs.Encoding.{route_bytes, traffic_bytes, transport_bytes, network_bytes, record_bytes}
use Rattle.netflow_five.proofs.Encoded.{record_of-record_bytes}
use Rattle.netflow_five.proofs.encoding.encode_record.Goals as goal

pub slice_bounds-bytes-end-3 : goal.slice_bounds-bytes-end-3
unfolding route_bytes traffic_bytes
slice_bounds-bytes-end-3 c =
    rw (c.copy_from_slice.ensures.after, c.encode_route.ensures.bytes, c.copy_from_slice-2.ensures.after, c.encode_traffic.ensures.bytes) (omega arith)

pub slice_bounds-bytes-end-4 : goal.slice_bounds-bytes-end-4
unfolding route_bytes traffic_bytes transport_bytes
slice_bounds-bytes-end-4 c =
    rw (c.copy_from_slice.ensures.after, c.encode_route.ensures.bytes, c.copy_from_slice-2.ensures.after, c.encode_traffic.ensures.bytes)
    (rw (c.copy_from_slice-3.ensures.after, c.encode_transport.ensures.bytes) (omega arith))

pub returns-clause-bytes : goal.returns-clause-bytes
unfolding record_bytes route_bytes traffic_bytes transport_bytes network_bytes
returns-clause-bytes c =
    rw (c.copy_from_slice.ensures.after, c.encode_route.ensures.bytes, c.copy_from_slice-2.ensures.after, c.encode_traffic.ensures.bytes)
    (rw (c.copy_from_slice-3.ensures.after, c.encode_transport.ensures.bytes, c.copy_from_slice-4.ensures.after, c.encode_network.ensures.bytes) refl)

pub returns-clause-read_back : goal.returns-clause-read_back
returns-clause-read_back c =
    record_of-record_bytes c.args.flow c.encode_route.ensures.fits c.encode_traffic.ensures.fits c.encode_transport.ensures.fits c.encode_network.ensures.fits
