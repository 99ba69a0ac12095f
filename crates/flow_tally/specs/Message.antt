-- The line that a status writes to standard error; none at `Done`.
use Rattle.std.specs.Prelude.{ℕ, List, [], ◌++◌, codes, decimal}
use Rattle.netflow_five.specs.declared.malformed.Malformed.{Malformed}
use Rattle.netflow_five.specs.declared.malformed.Malformed.TheVariants.{ShortHeader, Version, Count, ShortRecords}
use Rattle.call_script.specs.declared.bad_script.BadScript.{BadScript as ScriptFault}
use Rattle.call_script.specs.declared.bad_script.BadScript.TheVariants.{BadLine, TooMany, NoMemory as OutOfMemory}
use Rattle.call_script.specs.declared.bad_script.LineCause.{LineCause}
use Rattle.call_script.specs.declared.bad_script.LineCause.TheVariants.{Words, Number, Range, Held}
use Rattle.flow_tally.specs.declared.status.Status.{Status}
use Rattle.flow_tally.specs.declared.status.Status.TheVariants.{Done, Usage, OpenFault, ReadFault, WriteFault, BadDatagram, TooManyFlows, InputTooLarge, BadScript, NoMemory, PlanTooLarge}

-- which test the bytes failed, and the numbers that they had there
unfoldable pub cause_text : Malformed → List ℕ
cause_text (ShortHeader left) = codes "short header, " ++ decimal left ++ codes " bytes left"
cause_text (Version found) = codes "version " ++ decimal found
cause_text (Count found) = codes "count " ++ decimal found
cause_text (ShortRecords left wanted) = codes "short records, " ++ decimal left ++ codes " bytes left, " ++ decimal wanted ++ codes " wanted"

-- the commands with their options
unfoldable pub usage_line : List ℕ
usage_line = codes "flow_tally: usage: tally [--workers W] [--flows F] [--buckets B] FILE... or drive [--buckets B] [--share Q] FILE or trial [--workers W] [--flows F] [--buckets B] START N\n"

-- where a file has no further datagram, and why
unfoldable pub datagram_line : ℕ → ℕ → Malformed → List ℕ
datagram_line file offset cause = codes "flow_tally: file " ++ decimal file ++ codes " offset " ++ decimal offset ++ codes ": " ++ cause_text cause ++ codes "\n"

-- what is wrong with a line of a script
unfoldable pub line_cause_text : LineCause → List ℕ
line_cause_text Words = codes "words"
line_cause_text Number = codes "number"
line_cause_text Range = codes "range"
line_cause_text Held = codes "held"

-- which line of a script is bad, and why
unfoldable pub bad_line : ℕ → LineCause → List ℕ
bad_line line cause = codes "flow_tally: script line " ++ decimal line ++ codes ": " ++ line_cause_text cause ++ codes "\n"

-- which line of a script is one too many
unfoldable pub line_too_many : ℕ → List ℕ
line_too_many line = codes "flow_tally: script line " ++ decimal line ++ codes ": too many\n"

-- what is wrong with a script; want of memory is a status of its own
abbrev pub script_line : ScriptFault → List ℕ
script_line (BadLine line cause) = bad_line line cause
script_line (TooMany line) = line_too_many line
script_line OutOfMemory = codes "flow_tally: out of memory\n"

-- the line of each status
unfoldable pub message_of : Status → List ℕ
message_of Done = []
message_of Usage = usage_line
message_of (OpenFault file) = codes "flow_tally: file " ++ decimal file ++ codes " cannot be opened\n"
message_of (ReadFault file) = codes "flow_tally: file " ++ decimal file ++ codes " cannot be read\n"
message_of (WriteFault written) = codes "flow_tally: output cannot be written\n"
message_of (BadDatagram file offset cause) = datagram_line file offset cause
message_of (TooManyFlows limit) = codes "flow_tally: more than " ++ decimal limit ++ codes " flows\n"
message_of (InputTooLarge file) = codes "flow_tally: input too large at file " ++ decimal file ++ codes "\n"
message_of (BadScript fault) = script_line fault
message_of NoMemory = codes "flow_tally: out of memory\n"
message_of (PlanTooLarge nodes) = codes "flow_tally: plan too large: " ++ decimal nodes ++ codes " nodes\n"
