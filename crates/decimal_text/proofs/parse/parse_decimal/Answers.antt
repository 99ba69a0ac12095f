use Rattle.std.proofs.Common.{arith}
use Rattle.decimal_text.proofs.Decimals.{no_needless_zero, no_spelling, value_at_most, value_spelled}
use Rattle.decimal_text.proofs.parse.parse_decimal.Goals as goal

pub returns-then-has_needless_zero-clause-none : goal.returns-then-has_needless_zero-clause-none
returns-then-has_needless_zero-clause-none c = λ n le is.
    let zero = c.has_needless_zero.ensures.0 c.if-has_needless_zero.true in
    no_needless_zero c.args.text.now n (omega arith) is zero.0 zero.1

pub returns-clause-spelled : goal.returns-clause-spelled
returns-clause-spelled c = value_spelled c.args.text.now c.args.most (omega arith)
    (λ zero. cc (c.has_needless_zero.ensures.1 zero, c.if-has_needless_zero.false)) c.parse_digits.result c.parse_digits.ensures

pub returns-clause-at_most : goal.returns-clause-at_most
returns-clause-at_most c = value_at_most c.args.text.now c.args.most (omega arith)
    (λ zero. cc (c.has_needless_zero.ensures.1 zero, c.if-has_needless_zero.false)) c.parse_digits.result c.parse_digits.ensures

pub returns-clause-none : goal.returns-clause-none
returns-clause-none c = no_spelling c.args.text.now c.args.most (omega arith)
    (λ zero. cc (c.has_needless_zero.ensures.1 zero, c.if-has_needless_zero.false)) c.parse_digits.result c.parse_digits.ensures
