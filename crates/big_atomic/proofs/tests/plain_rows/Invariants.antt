use Rattle.std.proofs.Common.{◌≡◌}
use Rattle.big_atomic.specs.declared.tests.TheConstants.{REGISTERS}
use Rattle.seat_history.specs.Plain.{register_count}
use Rattle.big_atomic.proofs.tests.plain_rows.Given as goal

abbrev pub invariant-loop : goal.invariant-loop
invariant-loop l = register_count l.plain ≡ REGISTERS

abbrev pub invariant-loop-reg : goal.invariant-loop-reg
invariant-loop-reg l = register_count l.plain ≡ REGISTERS
