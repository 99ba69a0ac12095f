use Rattle.std.proofs.Common.{arith}
use Rattle.flow_report.proofs.Spellings.{none_by_word}
use Rattle.flow_report.proofs.number.read_number.Goals as goal

pub returns-in_err-number : goal.returns-in_err-number
returns-in_err-number c =
    rw c.from_residual-in_err-number.ensures (none_by_word c.args.text.now c.in_ok-word.word.now c.in_ok-word.rest.now c.args.after c.args.most (omega arith) (omega arith)
    c.in_ok-word.ensures.first c.in_ok-word.ensures.whole c.in_err-number.ensures.none)
