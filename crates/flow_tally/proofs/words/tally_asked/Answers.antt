use Rattle.std.proofs.Common.{map}
use Rattle.std.specs.String.{string_bytes}
use Rattle.flow_tally.specs.Words.{tally_app, tally_from}
use Rattle.flow_tally.proofs.Parse.{refused_gives}
use Rattle.flow_tally.proofs.words.tally_asked.Goals as goal

pub returns-in-Err : goal.returns-in-Err
returns-in-Err c = refused_gives tally_app tally_from (map string_bytes c.args.words.now) c.in-Err.asked c.in-Ok.ensures c.in-Err.ensures.refused
