use Rattle.std.proofs.Common.{◌≡◌, ◌+◌, ◌≤◌, ◌-◌, length, take, true}
use Rattle.wire_ports.specs.Bytes.{IsReadOf}
use Rattle.wire_ports.proofs.whole.read_whole.Given as goal

abbrev pub invariant-pieces : goal.invariant-pieces
invariant-pieces g l = let F = g.F.Feed in record {
  started : F.started l.feed ≡ true;
  within : l.filled ≤ length l.all.items;
  most : l.filled ≤ l.most;
  read : IsReadOf (F.left l.fn.feed) (take l.filled l.all.items) (F.left l.feed);
  given : F.given l.feed ≡ F.given l.fn.feed + l.filled;
  current : F.current l.feed ≡ F.current l.fn.feed;
  files : F.files l.feed ≡ F.files l.fn.feed;
  quiet : F.failed l.feed ≡ F.failed l.fn.feed;
  steady : F.faults l.feed ≡ F.faults l.fn.feed;
}

abbrev pub decreases-pieces : goal.decreases-pieces
decreases-pieces g l = l.most - l.filled
