-- The exact clauses of the file feed give its trait's.
use Rattle.std.proofs.Common.{refl, arith}
use Rattle.std.proofs.lemmas.Grind.{common_steps}
use Rattle.wire_ports.proofs.file_feed.FileFeedFeed.TheImpl.Goals as goal

pub start-tells : goal.start-tells
start-tells g c = record {
  files = refl;
  current = grind (arith, common_steps);
  started = grind (arith, common_steps);
  left = grind (arith, common_steps);
  given = grind (arith, common_steps);
  quiet = grind (arith, common_steps);
  steady = grind (arith, common_steps);
  later = c.ensures.later;
  risen = c.ensures.risen;
  cause = grind (arith, common_steps);
}

pub read-tells : goal.read-tells
read-tells g c = record {
  files = refl;
  current = grind (arith, common_steps);
  started = grind (arith, common_steps);
  count = c.ensures.count;
  bytes = grind (arith, common_steps);
  end = grind (arith, common_steps);
  given = grind (arith, common_steps);
  quiet = grind (arith, common_steps);
  kept = grind (arith, common_steps);
  none_given = grind (arith, common_steps);
  steady = grind (arith, common_steps);
  later = c.ensures.later;
  risen = c.ensures.risen;
  cause = grind (arith, common_steps);
}
