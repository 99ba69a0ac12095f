use Rattle.std.proofs.Common.{refl}
use Rattle.netflow_five.specs.Encoding.{clock_bytes, exporter_bytes, header_bytes}
use Rattle.netflow_five.proofs.Encoded.{header_of-header_bytes}
use Rattle.netflow_five.proofs.encoding.encode_header.Goals as goal

pub returns-clause-bytes : goal.returns-clause-bytes
unfolding header_bytes clock_bytes exporter_bytes
returns-clause-bytes c =
    rw (c.copy_from_slice.ensures.after, c.to_be_bytes.ensures, c.copy_from_slice-2.ensures.after, c.to_be_bytes-2.ensures)
    (rw (c.copy_from_slice-3.ensures.after, c.encode_clock.ensures.bytes, c.copy_from_slice-4.ensures.after, c.encode_exporter.ensures.bytes) refl)

pub returns-clause-read_back : goal.returns-clause-read_back
returns-clause-read_back c = header_of-header_bytes c.args.header c.args.count c.encode_clock.ensures.fits c.encode_exporter.ensures.fits
