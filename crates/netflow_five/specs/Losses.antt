-- What is told of each engine of an exporter: how many of its flows came, how many were lost, and how often its numbers went back.
use Rattle.std.specs.Prelude.{◌≡◌, ◌↔◌, List, map, All, Contains}
use Rattle.std.specs.List.{sum_by}
use Rattle.std.specs.List.Sorted.{IsStrictlySortedBy}
use Rattle.netflow_five.specs.Engines.{Engine, engine_cmp, engine_of, line_engine, sent_by}
use Rattle.netflow_five.specs.Gaps.{gaps, lost_among, resets_among}
use Rattle.netflow_five.specs.declared.engine_line.EngineLine.{EngineLine}
use Rattle.netflow_five.specs.declared.seq_mark.SeqMark.{SeqMark}

-- the line tells what came of these datagrams, which one engine sent
pub record Tells (sent : List SeqMark) (line : EngineLine) : Type 0 where
  pub flows : line.flows ≡ sum_by (λ mark. mark.count) sent
  pub lost : line.lost ≡ lost_among (gaps sent)
  pub resets : line.resets ≡ resets_among (gaps sent)

-- the line tells what came of the datagrams that its engine sent
abbrev pub IsEngineLine : List SeqMark → EngineLine → Type 0
IsEngineLine marks line = Tells (sent_by (line_engine line) marks) line

-- the engines that occur have a line each, and no others have one; the lines rise by type and then by id
pub record IsLosses (marks : List SeqMark) (lines : List EngineLine) : Type 0 where
  pub rising : IsStrictlySortedBy engine_cmp (map line_engine lines)
  pub whose : (engine : Engine) → Contains (map line_engine lines) engine ↔ Contains (map engine_of marks) engine
  pub each : All (IsEngineLine marks) lines
