use Rattle.std.proofs.Common.{arith}
use Rattle.std.proofs.lemmas.Grind.{common_steps}
use Rattle.std.proofs.lemmas.List.Elements.{All-more}
use Rattle.flow_report.specs.Ranges.{IsEngineInRange}
use Rattle.flow_report.proofs.text.add_engines.Goals as goal

pub loop-line-preserved : goal.loop-line-preserved
loop-line-preserved c = record {
  lines = grind (arith, common_steps);
  in_range = All-more IsEngineInRange c.args.engines.now c.loop-line.line-index _ c.loop-line-test.true c.loop-line.invariant.in_range c.in_ok-add_engine.ensures.in_range;
}
