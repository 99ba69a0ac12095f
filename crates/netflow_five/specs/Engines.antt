-- The engines of an exporter, and which of its datagrams each has sent.
use Rattle.std.specs.Prelude.{ℕ, Bool, ◌&&◌, ◌==◌, List}
use Rattle.std.specs.List.{filter}
use Rattle.std.specs.Ordering.{nat_cmp, ordering_then}
use Rattle.std.specs.declared.cmp.Ordering.{Ordering}
use Rattle.netflow_five.specs.declared.engine_line.EngineLine.{EngineLine}
use Rattle.netflow_five.specs.declared.seq_mark.SeqMark.{SeqMark}

-- a type, and an id within it
abbrev pub Engine : Type 0
Engine = ℕ × ℕ

-- by type, and then by id
abbrev pub engine_cmp : Engine → Engine → Ordering
engine_cmp a b = ordering_then (nat_cmp a.0 b.0) (nat_cmp a.1 b.1)

-- the engine that sent a datagram
abbrev pub engine_of : SeqMark → Engine
engine_of mark = (mark.engine_type, mark.engine_id)

-- the engine that a line is about
abbrev pub line_engine : EngineLine → Engine
line_engine line = (line.engine_type, line.engine_id)

-- whether the engine sent a datagram
abbrev pub has_sent : Engine → SeqMark → Bool
has_sent engine mark = (engine.0 == mark.engine_type) && (engine.1 == mark.engine_id)

-- the datagrams that the engine sent, in order
unfoldable pub sent_by : Engine → List SeqMark → List SeqMark
sent_by engine marks = filter (has_sent engine) marks
