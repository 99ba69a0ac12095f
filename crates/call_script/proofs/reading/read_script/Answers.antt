use Rattle.call_script.specs.Cut.{lines_of}
use Rattle.call_script.specs.Script.{reading_of}
use Rattle.call_script.proofs.OneReading.{only_reading}
use Rattle.call_script.proofs.reading.read_script.Goals as goal

pub returns-clause-only : goal.returns-clause-only
returns-clause-only c = only_reading (lines_of c.args.bytes.now) (reading_of c.read_whole.result) c.read_whole.ensures
