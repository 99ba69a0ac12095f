use Rattle.std.proofs.Common.{Some}
use Rattle.flow_tally.specs.Words.{OfDrive, drive_in}
use Rattle.flow_tally.proofs.OutcomeEnds.{written_says}
use Rattle.flow_tally.proofs.drive.drive.Goals as goal

pub returns-in-Ok-clause-says : goal.returns-in-Ok-clause-says
returns-in-Ok-clause-says g c =
    let took = c.write_output.ensures in
    written_says (Some (OfDrive (drive_in c.args.words.now))) _ _ c.in-Ok.answer.closed c.in-Ok.answer.text.items c.write_output.result.status took.closed c.in-Ok.ensures.answer took.took
