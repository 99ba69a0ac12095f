use Rattle.std.proofs.Common.{◌+◌, arith}
use Rattle.std.proofs.lemmas.Int.Digits.{digits_more}
use Rattle.std.proofs.lemmas.Str.Parse.{digit_at, digits_value-take-le}
use Rattle.std.proofs.lemmas.Bool.Decides.{nat_tests}
use Rattle.decimal_text.proofs.Decimals.{value_more}
use Rattle.decimal_text.proofs.parse.parse_digits.Goals as goal

pub returns-then-not-is_ascii_digit : goal.returns-then-not-is_ascii_digit
returns-then-not-is_ascii_digit c = λ numeral.
    let inside = digit_at c.args.text.now c.loop-digit.digit-index numeral.0.1 c.loop-digit-test.true in
    absurd (grind (arith, nat_tests, c.if-not-is_ascii_digit.ensures.cases))

pub returns-then-value-from : goal.returns-then-value-from
returns-then-value-from c = λ numeral.
    let word = c.args.text.now in
    let i = c.loop-digit.digit-index in
    let value = value_more word i c.loop-digit.value c.from.result c.loop-digit-test.true c.if-not-is_ascii_digit.ensures.cases c.loop-digit.invariant.value c.from.ensures in
    omega (arith, value, digits_value-take-le 10 word (i + 1) (omega arith), numeral.1, c.if-value-from.true, c.from-in-loop-digit.ensures)

pub loop-digit-preserved : goal.loop-digit-preserved
loop-digit-preserved c =
    let word = c.args.text.now in
    let i = c.loop-digit.digit-index in
    record {
      digits = digits_more 10 word i c.loop-digit-test.true c.loop-digit.invariant.digits c.if-not-is_ascii_digit.ensures.bound;
      value = value_more word i c.loop-digit.value c.from.result c.loop-digit-test.true c.if-not-is_ascii_digit.ensures.cases c.loop-digit.invariant.value c.from.ensures;
      small = omega (arith, c.if-value-from.false, c.from-in-loop-digit.ensures);
    }
