use Rattle.flow_report.proofs.Rooms.{length-value_text}
use Rattle.flow_report.proofs.line.value_len.Goals as goal

pub returns-clause-length : goal.returns-clause-length
returns-clause-length c = cc (
  length-value_text c.args.value,
  c.decimal_len.ensures.length,
  c.decimal_len-2.ensures.length,
  c.decimal_len-3.ensures.length,
  c.decimal_len-4.ensures.length,
  c.decimal_len-5.ensures.length,
)
