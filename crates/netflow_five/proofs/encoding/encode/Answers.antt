use Rattle.std.proofs.Common.{◌∙◌}
use Rattle.netflow_five.proofs.Encoded.{written_is_datagram, header_of-datagram_bytes, records_of-datagram_bytes}
use Rattle.netflow_five.proofs.encoding.encode.Goals as goal

pub returns-clause-datagram : goal.returns-clause-datagram
returns-clause-datagram c =
    rw (c.in_ok-add_records.ensures.added, c.in_ok-add_header.ensures.added, c.in_ok-bytes.ensures.items)
    (written_is_datagram c.args.header.now c.args.flows.now c.requires.some_records c.requires.few_records)

pub returns-clause-header : goal.returns-clause-header
returns-clause-header c =
    rw (c.in_ok-add_records.ensures.added, c.in_ok-add_header.ensures.added, c.in_ok-bytes.ensures.items)
    (header_of-datagram_bytes c.args.header.now c.args.flows.now ∙ c.in_ok-add_header.ensures.read_back)

pub returns-clause-records : goal.returns-clause-records
returns-clause-records c =
    rw (c.in_ok-add_records.ensures.added, c.in_ok-add_header.ensures.added, c.in_ok-bytes.ensures.items)
    (records_of-datagram_bytes c.args.header.now c.args.flows.now c.requires.few_records ∙ c.in_ok-add_records.ensures.read_back)
