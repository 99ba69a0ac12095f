-- What files in memory show.
use Rattle.std.specs.Prelude.{ℕ, List}
use Rattle.wire_ports.specs.NamedBytes.{bytes_from}
use Rattle.wire_ports.specs.declared.memory_files.MemoryFiles.{MemoryFiles}

-- the bytes that weren't read yet
abbrev pub left_in : MemoryFiles → List ℕ
left_in f = bytes_from f.files.items f.place f.at
