use Rattle.std.proofs.Common.{ap, length, sym, arith}
use Rattle.std.proofs.lemmas.Fmt.{decimal_digit}
use Rattle.decimal_text.proofs.Lengths.{length_from_log}
use Rattle.decimal_text.proofs.writer.decimal_len.Goals as goal

pub returns-in-Some-clause-length : goal.returns-in-Some-clause-length
returns-in-Some-clause-length c = sym (length_from_log c.in-Some.log c.args.number (omega arith) c.in-Some.ensures.power_le c.in-Some.ensures.next_power_gt)

pub returns-in-None-clause-length : goal.returns-in-None-clause-length
returns-in-None-clause-length c = sym (ap length (decimal_digit c.args.number (omega (arith, c.in-None.ensures.none))))
