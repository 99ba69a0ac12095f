use Rattle.std.proofs.Common.{◌≡◌}
use Rattle.netflow_five.specs.Generating.{generated, number_after, records_before}
use Rattle.netflow_five.proofs.generator.generate.Given as goal

abbrev pub invariant-loop-i : goal.invariant-loop-i
invariant-loop-i l = record {
  bytes : l.bytes.items ≡ generated l.start l.i;
  number : l.number ≡ number_after l.start (records_before l.i);
}
