use Rattle.flow_report.proofs.EngineParts.{engine_more}
use Rattle.flow_report.proofs.line.add_engine.Goals as goal

pub returns-clause-line : goal.returns-clause-line
returns-clause-line c =
    rw (
      c.in_ok-add_named-4.ensures,
      c.in_ok-add_named-3.ensures,
      c.in_ok-add_named-2.ensures,
      c.in_ok-add_number.ensures,
      c.in_ok-add_named.ensures,
      c.from.ensures,
      c.from-2.ensures,
      c.from-3.ensures,
      c.from-4.ensures,
      c.from-5.ensures,
    ) (engine_more _ c.args.line)
