use Rattle.call_script.specs.Text.{register_line}
use Rattle.std.specs.List.{enumerate_from}
use Rattle.std.specs.List.{flat_map}
use Rattle.std.proofs.Common.{◌≡◌, ◌++◌, take}
use Rattle.call_script.proofs.writing.add_registers.Given as goal

abbrev pub invariant-loop-number : goal.invariant-loop-number
invariant-loop-number l = l.text ≡ l.fn.text ++ flat_map register_line (enumerate_from 0 (take l.number l.registers))
