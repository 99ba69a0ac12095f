use Rattle.std.specs.Prelude.{map}
use Rattle.std.specs.String.{string_bytes}
use Rattle.std.proofs.Common.{◌≡◌}
use Rattle.flow_tally.specs.Input.{IsReadOut, feed_shown}
use Rattle.flow_tally.proofs.Inputs.{SoFar}
use Rattle.flow_tally.proofs.input.read_files.Given as goal

abbrev pub invariant-loop-name : goal.invariant-loop-name
invariant-loop-name g l = let F = g.F.Feed in record {
  read : SoFar (F.files l.fn.feed) (map string_bytes l.files) l.name-index l.left l.gathered;
  number : l.file ≡ l.name-index;
  files : F.files l.feed ≡ F.files l.fn.feed;
  out : IsReadOut l.name-index (feed_shown F.files F.faults F.failed F.current F.started F.left F.given l.fn.feed l.feed);
}
