use Rattle.std.proofs.Common.{◌≡◌}
use Rattle.seat_history.specs.Plain.{object_of}
use Rattle.call_script.specs.Run.{registers_in}
use Rattle.call_script.proofs.plain_run.all_registers.Given as goal

abbrev pub invariant-loop-reg : goal.invariant-loop-reg
invariant-loop-reg l = l.registers.items ≡ registers_in (object_of l.plain) l.reg
