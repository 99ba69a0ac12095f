use Rattle.call_script.proofs.Parts.{parts_cut, parts_none}
use Rattle.call_script.proofs.cut.cut.Goals as goal

pub returns-in-None : goal.returns-in-None
returns-in-None c = parts_none c.args.byte c.args.bytes.now c.in-None.ensures.none

pub returns-in-Some : goal.returns-in-Some
returns-in-Some c = parts_cut c.args.byte c.args.bytes.now c.in-Some.front.now c.in-Some.back.now c.in-Some.ensures.whole c.in-Some.ensures.first
