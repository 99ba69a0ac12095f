-- The program's exit statuses.
use Rattle.std.specs.Prelude.{ℕ}
use Rattle.flow_tally.specs.declared.status.Status.{Status}
use Rattle.flow_tally.specs.declared.status.Status.TheVariants.{Done, Usage, OpenFault, ReadFault, WriteFault, BadDatagram, TooManyFlows, InputTooLarge, BadScript, NoMemory, PlanTooLarge}

abbrev pub exit_code_of : Status → ℕ
exit_code_of Done = 0
exit_code_of Usage = 2
exit_code_of (OpenFault file) = 3
exit_code_of (ReadFault file) = 4
exit_code_of (WriteFault written) = 5
exit_code_of (BadDatagram file offset cause) = 6
exit_code_of (TooManyFlows limit) = 7
exit_code_of (InputTooLarge file) = 8
exit_code_of (BadScript fault) = 9
exit_code_of NoMemory = 10
exit_code_of (PlanTooLarge nodes) = 11
