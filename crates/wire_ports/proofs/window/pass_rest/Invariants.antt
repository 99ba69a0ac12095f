use Rattle.std.proofs.Common.{◌≡◌, ◌≤◌, ◌-◌, ℕ, List, length}
use Rattle.wire_ports.specs.FeedMoments.{feed_at, HasGiven}
use Rattle.wire_ports.proofs.window.pass_rest.Given as goal

abbrev pub invariant-pieces : goal.invariant-pieces
invariant-pieces g l = let F = g.F.Feed in let at = feed_at F.files F.left F.given F.current F.started F.faults F.failed in record {
  few : l.passed ≤ l.most;
  read : (bytes : List ℕ) × (l.passed ≡ length bytes) × HasGiven bytes (at l.fn.feed) (at l.feed);
}

abbrev pub decreases-pieces : goal.decreases-pieces
decreases-pieces g l = l.most - l.passed
