use Rattle.std.proofs.Common.{◌∙◌, Some, ap, arith}
use Rattle.flow_tally.proofs.Digits.{none_read, number_read, too_small}
use Rattle.flow_tally.proofs.numbers.number_within.Goals as goal

pub returns-in_err-number-clause-number : goal.returns-in_err-number-clause-number
returns-in_err-number-clause-number c = rw c.from_residual.ensures (none_read c.args.least c.args.most c.args.digits.now c.in_err-number.ensures)

pub returns-then-number-least-clause-number : goal.returns-then-number-least-clause-number
returns-then-number-least-clause-number c = too_small c.args.least c.args.most c.args.digits.now (omega (arith, c.in_ok-number.ensures.1, c.if-number-least.true))

pub returns-clause-number : goal.returns-clause-number
returns-clause-number c =
    let e = c.in_ok-number.ensures in
    ap (λ n. Some n) e.1 ∙ number_read c.args.least c.args.most c.args.digits.now e.0.0 (omega (arith, e.1, c.if-number-least.false)) e.0.1
