-- How a status is told to standard error.
use Rattle.std.specs.Prelude.{◌≡◌, ◌⊎◌, ℕ, ◌<◌, List, length, take, Option}
use Rattle.std.specs.String.{string_bytes}
use Rattle.wire_ports.specs.Bytes.{Appends}
use Rattle.wire_ports.specs.Ports.{HasRisen}
use Rattle.flow_tally.specs.declared.message.Line.{Line}
use Rattle.flow_tally.specs.declared.message.Line.TheVariants.{Fixed, Written}
use Rattle.flow_tally.specs.declared.status.Status.{Status}
use Rattle.flow_tally.specs.declared.status.Status.TheVariants.{Done, Usage, OpenFault, ReadFault, WriteFault, BadDatagram, TooManyFlows, InputTooLarge, BadScript, NoMemory, PlanTooLarge}

-- the bytes of a line
abbrev pub line_bytes : Line → List ℕ
line_bytes (Fixed text) = text.now
line_bytes (Written text) = string_bytes text

-- the line came to what the sink took, or a front of it where the sink's count of faults rose
abbrev pub Tells : List ℕ → Option (List ℕ) → Option (List ℕ) → ℕ → ℕ → Type 0
Tells line before after old new = (n : ℕ) × Appends before (take n line) after × (n < length line → HasRisen old new)

-- the line of the status has numbers in it; no output has begun then
abbrev pub HasNumbers : Status → Type 0
HasNumbers Done = ⊥
HasNumbers Usage = ⊥
HasNumbers (OpenFault file) = Unit {0}
HasNumbers (ReadFault file) = Unit {0}
HasNumbers (WriteFault written) = ⊥
HasNumbers (BadDatagram file offset cause) = Unit {0}
HasNumbers (TooManyFlows limit) = Unit {0}
HasNumbers (InputTooLarge file) = Unit {0}
HasNumbers (BadScript fault) = Unit {0}
HasNumbers NoMemory = ⊥
HasNumbers (PlanTooLarge nodes) = Unit {0}

-- a status is told as itself, or as want of memory where its line wanted some
abbrev pub IsToldAs : Status → Status → Type 0
IsToldAs status told = (told ≡ status) ⊎ ((told ≡ NoMemory) × HasNumbers status)
