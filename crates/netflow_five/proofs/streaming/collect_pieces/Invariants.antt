use Rattle.std.specs.Prelude.{IfSome}
use Rattle.std.proofs.Common.{◌≤◌, ◌+◌, ◌-◌, ℕ, List, length}
use Rattle.wire_ports.specs.FeedMoments.{feed_at}
use Rattle.netflow_five.specs.Next.{StopsAt, IsShort}
use Rattle.netflow_five.proofs.Streams.{SoFar}
use Rattle.netflow_five.proofs.streaming.collect_pieces.Given as goal

abbrev pub invariant-reads : goal.invariant-reads
invariant-reads g l =
    let F = g.F.Feed in
    let C = g.C.Collector in
    let at = feed_at F.files F.left F.given F.current F.started F.faults F.failed in
    record {
      few : l.read ≤ l.most;
      collected : (bytes : List ℕ) × (ds : List (List ℕ)) × SoFar C.holds (at l.fn.feed) l.fn.collector l.read bytes ds l.window (at l.feed) l.collector;
      stops : StopsAt l.window 0 l.cause;
      short : IfSome l.cause IsShort;
      span : C.span l.collector + length l.window ≤ C.span l.fn.collector + l.read;
    }

abbrev pub decreases-reads : goal.decreases-reads
decreases-reads g l = l.most - l.read
