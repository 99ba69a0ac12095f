use Rattle.flow_tally.specs.Words.{drive_in}
use Rattle.flow_tally.proofs.OutcomeDrive.{read_refuses}
use Rattle.flow_tally.proofs.drive.drive_file.Goals as goal

pub returns-in-Err-clause-answer : goal.returns-in-Err-clause-answer
returns-in-Err-clause-answer g c = read_refuses (drive_in c.args.words.now) _ c.as_str.result.now c.in-Err.status c.as_str.ensures.value c.in-Err.ensures.current c.in-Err.ensures.read
