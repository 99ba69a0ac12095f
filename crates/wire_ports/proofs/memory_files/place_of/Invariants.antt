use Rattle.std.proofs.Common.{◌≡◌, ◌+◌, drop}
use Rattle.wire_ports.specs.NamedBytes.{first_place}
use Rattle.wire_ports.proofs.memory_files.place_of.Given as goal

abbrev pub invariant-loop-i : goal.invariant-loop-i
invariant-loop-i l = first_place l.name l.files ≡ l.i + first_place l.name (drop l.i l.files)
