use Rattle.flow_tally.proofs.Told.{line_told}
use Rattle.flow_tally.proofs.message.write_line.Goals as goal

pub returns-clause-line : goal.returns-clause-line
returns-clause-line g c = line_told _ _ _ _ _ _ c.put_all.result c.as_bytes.ensures.value c.put_all.ensures.ok c.put_all.ensures.front c.put_all.ensures.risen
